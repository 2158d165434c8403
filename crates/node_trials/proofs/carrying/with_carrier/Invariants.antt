use Rattle.driven_node.specs.Nodes.{AreDriven}
use Rattle.node_trials.proofs.carrying.with_carrier.Given as goal

abbrev pub invariant-loop-block : goal.invariant-loop-block
invariant-loop-block l = AreDriven l.nodes

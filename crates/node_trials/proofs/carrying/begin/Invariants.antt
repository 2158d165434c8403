use Rattle.driven_node.specs.Nodes.{AreDriven}
use Rattle.node_trials.proofs.carrying.begin.Given as goal

abbrev pub invariant-loop-event : goal.invariant-loop-event
invariant-loop-event l = AreDriven l.nodes

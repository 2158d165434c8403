use Rattle.driven_node.specs.Nodes.{AreDriven}
use Rattle.node_trials.proofs.carrying.bring_all.Given as goal

abbrev pub invariant-loop-posted : goal.invariant-loop-posted
invariant-loop-posted l = AreDriven l.nodes

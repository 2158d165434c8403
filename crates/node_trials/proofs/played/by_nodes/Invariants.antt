use Rattle.driven_node.specs.Nodes.{AreDriven}
use Rattle.node_trials.proofs.played.by_nodes.Given as goal

abbrev pub invariant-loop-event : goal.invariant-loop-event
invariant-loop-event l = AreDriven l.nodes

abbrev pub invariant-loop-block : goal.invariant-loop-block
invariant-loop-block l = AreDriven l.nodes

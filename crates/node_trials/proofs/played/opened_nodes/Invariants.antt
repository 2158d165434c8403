use Rattle.driven_node.specs.Nodes.{AreDriven}
use Rattle.node_trials.proofs.played.opened_nodes.Given as goal

abbrev pub invariant-loop-panel : goal.invariant-loop-panel
invariant-loop-panel l = AreDriven l.nodes

use Rattle.driven_node.specs.Nodes.{AreDriven}
use Rattle.node_trials.proofs.played.play_tick.Given as goal

abbrev pub invariant-loop-panel-2 : goal.invariant-loop-panel-2
invariant-loop-panel-2 l = AreDriven l.nodes

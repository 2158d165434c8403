use Rattle.std.proofs.Common.{All}
use Rattle.answer_lanes.specs.PanelBlocks.{IsBlockOf}
use Rattle.answer_lanes.proofs.panel_blocks.blocks_of_panel.Given as goal

abbrev pub invariant-loop-group : goal.invariant-loop-group
invariant-loop-group l = All (IsBlockOf l.points l.panel) l.blocks.items

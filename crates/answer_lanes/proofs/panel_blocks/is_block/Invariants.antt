use Rattle.std.proofs.Common.{ℕ, ◌<◌}
use Rattle.answer_lanes.specs.Known.{place_in}
use Rattle.answer_lanes.specs.PanelBlocks.{HasAsked}
use Rattle.answer_lanes.proofs.panel_blocks.is_block.Given as goal

abbrev pub invariant-loop-k : goal.invariant-loop-k
invariant-loop-k l = (k : ℕ) → k < l.k → HasAsked l.points l.panel l.from k (place_in l.firsts k)

use Rattle.std.proofs.Common.{◌≡◌}
use Rattle.answer_lanes.specs.Moves.{AreWhole}
use Rattle.answer_lanes.proofs.whole.counted_runs.Given as goal

-- the runs before this one go whole
abbrev pub invariant-loop-run : goal.invariant-loop-run
invariant-loop-run g l = record {
  at : l.whole.runs ≡ l.run-index;
  before : AreWhole g.S.Several.item_at l.fn.most l.fn.runs l.whole.runs l.whole.items;
}

use Rattle.std.proofs.Common.{◌≡◌, length}
use Rattle.answer_lanes.specs.Queues.{queued}
use Rattle.answer_lanes.proofs.Passing.{Passing}
use Rattle.answer_lanes.proofs.lane.pass_items.Given as goal

abbrev pub invariant-loop-left : goal.invariant-loop-left
invariant-loop-left g l = record {
  passing : Passing g.S.Several.item_at l.fn.count (queued l.fn.runs) l.left (queued l.runs);
  same : length l.runs.room.items ≡ length l.fn.runs.room.items;
}

abbrev pub decreases-loop-left : goal.decreases-loop-left
decreases-loop-left g l = l.left

use Rattle.std.proofs.Common.{length}
use Rattle.desk_ticks.proofs.Behind.{IsRead}
use Rattle.desk_ticks.proofs.checking.refusal_behind.Given as goal

-- the lines before those that are left were read, and none of them is refused
abbrev pub invariant-loop-left : goal.invariant-loop-left
invariant-loop-left l = IsRead l.site l.fn.rest l.left l.reader l.number

abbrev pub decreases-loop-left : goal.decreases-loop-left
decreases-loop-left l = length l.left

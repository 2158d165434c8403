use Rattle.told_operations.proofs.LineByLine.{IsAskedTo}
use Rattle.told_operations.proofs.asking.asked_operations.Given as goal

-- the lines before a place were looked at
abbrev pub invariant-loop-place : goal.invariant-loop-place
invariant-loop-place l = IsAskedTo l.site l.lines l.place l.ticks l.asked.items

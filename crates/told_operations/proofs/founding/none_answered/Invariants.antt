use Rattle.std.proofs.Common.{◌≡◌, false, replicate}
use Rattle.told_operations.proofs.founding.none_answered.Given as goal

abbrev pub invariant-loop : goal.invariant-loop
invariant-loop l = l.marks.items ≡ replicate l.counter false

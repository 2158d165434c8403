use Rattle.told_operations.proofs.Grounds.{IsFoundedTo}
use Rattle.told_operations.proofs.founding.first_unfounded.Given as goal

abbrev pub invariant-loop-place : goal.invariant-loop-place
invariant-loop-place l = IsFoundedTo l.asked l.steps l.place l.answered.items

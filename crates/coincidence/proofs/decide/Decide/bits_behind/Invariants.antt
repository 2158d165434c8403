use Rattle.coincidence.specs.GoingOn.{IsFrontInZone}
use Rattle.coincidence.proofs.decide.Decide.bits_behind.Given as goal

abbrev pub invariant-loop-left : goal.invariant-loop-left
invariant-loop-left l = IsFrontInZone l.self l.run l.zone l.bits l.left

abbrev pub decreases-loop-left : goal.decreases-loop-left
decreases-loop-left l = l.left

use Rattle.coincidence.proofs.ZoneParts.{AreTold}
use Rattle.coincidence.proofs.decide.Decide.tell_going_on.Given as goal

abbrev pub invariant-loop-left : goal.invariant-loop-left
invariant-loop-left l = AreTold l.self l.run l.initial.findings l.findings l.changing l.left l.place

abbrev pub decreases-loop-left : goal.decreases-loop-left
decreases-loop-left l = l.left

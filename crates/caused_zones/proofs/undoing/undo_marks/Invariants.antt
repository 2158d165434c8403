use Rattle.blocked_points.specs.Operations.{as_done}
use Rattle.caused_zones.specs.Undoing.{mark_unless, undoes_at}
use Rattle.caused_zones.proofs.EachAfter.{AreBelow}
use Rattle.caused_zones.proofs.undoing.undo_marks.Given as goal

abbrev pub invariant-loop-place : goal.invariant-loop-place
invariant-loop-place l = AreBelow (λ place mark. mark_unless (undoes_at l.site place (as_done l.done)) mark) l.initial.marks l.marks l.place

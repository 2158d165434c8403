use Rattle.site_types.specs.Done.{moves_floor}
use Rattle.blocked_points.specs.Operations.{as_done}
use Rattle.caused_zones.specs.Undoing.{cause_unless}
use Rattle.caused_zones.proofs.EachAfter.{AreBelow}
use Rattle.caused_zones.proofs.undoing.undo_causes.Given as goal

abbrev pub invariant-loop-zone : goal.invariant-loop-zone
invariant-loop-zone l =
    AreBelow (λ zone cause. cause_unless (moves_floor l.site zone (as_done l.done)) l.done.tick.0 cause) l.initial.causes l.causes l.zone

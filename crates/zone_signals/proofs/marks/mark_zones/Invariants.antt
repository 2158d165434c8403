use Rattle.zone_signals.specs.Marks.{AreMarkedFor}
use Rattle.zone_signals.proofs.marks.mark_zones.Given as goal

abbrev pub invariant-loop-place : goal.invariant-loop-place
invariant-loop-place l = AreMarkedFor l.site l.runs l.start l.marks l.place

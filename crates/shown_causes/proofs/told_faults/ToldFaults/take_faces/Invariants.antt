use Rattle.std.proofs.Common.{◌≡◌}
use Rattle.caused_zones.proofs.EachAfter.{AreBelow}
use Rattle.shown_causes.specs.Faults.{shows_fault_at, told_after}
use Rattle.shown_causes.proofs.told_faults.ToldFaults.take_faces.Given as goal

abbrev pub invariant-loop-place : goal.invariant-loop-place
invariant-loop-place l =
    (AreBelow (λ place told. told_after l.now.0 (shows_fault_at l.faces place) told) l.initial.self.panels l.self.panels l.place)
    × (l.self.next ≡ l.initial.self.next)

-- What functions tell of signals and keep of them, whatever was retained, done and befell.
use Rattle.std.specs.Prelude.{◌≡◌, ◌↔◌, ℕ, ◌+◌, ◌-◌, ◌<◌, Bool, true, List, Option}
use Rattle.site_types.specs.declared.retained.Retained.{Retained}
use Rattle.site_types.specs.declared.site.Site.{Site}
use Rattle.site_types.specs.Done.{Done, floor_before}
use Rattle.site_types.specs.Profile.{round_of}
use Rattle.panel_rules.specs.Moments.{Moment}
use Rattle.zone_signals.specs.declared.known.Known.{Known}
use Rattle.zone_signals.specs.declared.zone_settled.ZoneSettled.{ZoneSettled}
use Rattle.zone_signals.specs.Floors.{AreFloors}
use Rattle.zone_signals.specs.Known.{ArePointsKnown}
use Rattle.zone_signals.specs.Least.{IsLeastTick}
use Rattle.zone_signals.specs.Stands.{ZoneStands, ZonesStand}
use Rattle.zone_signals.specs.Marks.{AreZonesMarked}

-- signals of a zone, by the zone, the last tick and the tick from which on they count
abbrev pub SignalsOf : Type 1
SignalsOf = Site → Retained → List Done → List Moment → ℕ → ℕ → ℕ → Type 0

-- whether the points, by what is known of them when a tick begins, are so
abbrev pub TellsOfPoints : (Retained → List Done → List Moment → Type 0) → Known → Bool → Type 0
TellsOfPoints AreSo known result =
    (kept : Retained) (done : List Done) (moments : List Moment)
    → ArePointsKnown known.site.now kept done moments known.tick known.members.now known.runs.now
    → (result ≡ true) ↔ AreSo kept done moments

-- whether a signal of the zone that counts from a tick on ends now
abbrev pub TellsEnd : SignalsOf → Known → ℕ → ℕ → Bool → Type 0
TellsEnd Signal known zone settled result =
    (kept : Retained) (done : List Done) (moments : List Moment)
    → ArePointsKnown known.site.now kept done moments known.tick known.members.now known.runs.now
    → AreFloors known.site.now done known.tick known.rows.now
    → (result ≡ true) ↔ Signal known.site.now kept done moments zone known.tick settled

-- the least signal of a kind by the tick before becomes the least one by now, where no floor came
abbrev pub KeepsLeast : SignalsOf → Known → ℕ → Option ℕ → Option ℕ → Type 0
KeepsLeast Ended known zone old new =
    (kept : Retained) (done : List Done) (moments : List Moment)
    → ArePointsKnown known.site.now kept done moments known.tick known.members.now known.runs.now
    → AreFloors known.site.now done known.tick known.rows.now
    → floor_before known.site.now zone known.tick done + 1 < known.tick
    → IsLeastTick (Ended known.site.now kept done moments zone (known.tick - 1)) old
    → IsLeastTick (Ended known.site.now kept done moments zone known.tick) new

-- the least signals of all kinds by the tick before become the least ones by now, where no floor came
abbrev pub KeepsZone : Known → ℕ → ZoneSettled → ZoneSettled → Type 0
KeepsZone known zone old new =
    (kept : Retained) (done : List Done) (moments : List Moment)
    → ArePointsKnown known.site.now kept done moments known.tick known.members.now known.runs.now
    → AreFloors known.site.now done known.tick known.rows.now
    → floor_before known.site.now zone known.tick done + 1 < known.tick
    → ZoneStands known.site.now kept done moments (known.tick - 1) zone old
    → ZoneStands known.site.now kept done moments known.tick zone new

-- what is kept of a zone by the tick before becomes what is kept by now
abbrev pub TakesZone : Known → List Bool → ℕ → ZoneSettled → ZoneSettled → Type 0
TakesZone known stirred zone old new =
    (kept : Retained) (done : List Done) (moments : List Moment)
    → ArePointsKnown known.site.now kept done moments known.tick known.members.now known.runs.now
    → AreFloors known.site.now done known.tick known.rows.now
    → AreZonesMarked known.site.now known.runs.now (known.tick - round_of known.site.now.format) stirred
    → ZoneStands known.site.now kept done moments (known.tick - 1) zone old
    → ZoneStands known.site.now kept done moments known.tick zone new

abbrev pub TakesZones : Known → List Bool → List ZoneSettled → List ZoneSettled → Type 0
TakesZones known stirred old new =
    (kept : Retained) (done : List Done) (moments : List Moment)
    → ArePointsKnown known.site.now kept done moments known.tick known.members.now known.runs.now
    → AreFloors known.site.now done known.tick known.rows.now
    → AreZonesMarked known.site.now known.runs.now (known.tick - round_of known.site.now.format) stirred
    → ZonesStand known.site.now kept done moments (known.tick - 1) old
    → ZonesStand known.site.now kept done moments known.tick new

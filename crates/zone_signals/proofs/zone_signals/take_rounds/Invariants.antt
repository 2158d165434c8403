use Rattle.std.proofs.Common.{List, ◌-◌, length}
use Rattle.site_types.specs.declared.retained.Retained.{Retained}
use Rattle.site_types.specs.Done.{Done}
use Rattle.site_types.specs.Profile.{round_of}
use Rattle.panel_rules.specs.Moments.{Moment}
use Rattle.zone_signals.specs.Floors.{AreFloors}
use Rattle.zone_signals.specs.Known.{ArePointsKnown}
use Rattle.zone_signals.specs.Marks.{AreZonesMarked}
use Rattle.zone_signals.specs.Stands.{ZoneStands, ZonesStand}
use Rattle.zone_signals.proofs.PartlyTaken.{ArePartly}
use Rattle.zone_signals.proofs.zone_signals.take_rounds.Given as goal

abbrev pub invariant-loop-zone : goal.invariant-loop-zone
invariant-loop-zone l = (kept : Retained) (done : List Done) (moments : List Moment) → ArePointsKnown l.known.site.now kept done moments l.known.tick l.known.members.now l.known.runs.now
    → AreFloors l.known.site.now done l.known.tick l.known.rows.now → AreZonesMarked l.known.site.now l.known.runs.now (l.known.tick - round_of l.known.site.now.format) l.marks
    → ZonesStand l.known.site.now kept done moments (l.known.tick - 1) l.initial.settled
    → ArePartly (ZoneStands l.known.site.now kept done moments (l.known.tick - 1)) (ZoneStands l.known.site.now kept done moments l.known.tick) (length l.known.site.now.zones) l.zone l.settled

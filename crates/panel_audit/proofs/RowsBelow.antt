-- The signals of zones, as they are told one after another.
use Rattle.std.specs.Prelude.{◌≡◌, ◌<◌, ℕ, List, length, Some, slice_get}
use Rattle.site_types.specs.declared.retained.Retained.{Retained}
use Rattle.site_types.specs.declared.site.Site.{Site}
use Rattle.panel_rules.specs.Moments.{Moment}
use Rattle.blocked_points.specs.declared.done_operation.DoneOperation.{DoneOperation}
use Rattle.blocked_points.specs.Operations.{done_newest_first}
use Rattle.due_zones.specs.Deciding.{AreDecisive}
use Rattle.due_zones.specs.declared.least_signals.LeastSignals.{LeastSignals}
use Rattle.zone_signals.specs.StandsFor.{StandsFor}
use Rattle.zone_signals.specs.declared.zone_signals.ZoneSignals.{ZoneSignals}

-- those of the zones before a place decide at which panels the zones are due, whatever befell
abbrev pub TellsRowsBelow : Site → ZoneSignals → ℕ → List LeastSignals → Type 0
TellsRowsBelow site least place rows =
    (kept : Retained) (operations : List DoneOperation) (moments : List Moment) (zone : ℕ) (row : LeastSignals)
    → StandsFor site kept operations moments least → zone < place → zone < length site.zones
    → slice_get rows zone ≡ Some row → AreDecisive site kept (done_newest_first operations) moments zone row

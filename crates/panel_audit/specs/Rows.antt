-- The signals of each zone, as they are told of all zones.
use Rattle.std.specs.Prelude.{List}
use Rattle.site_types.specs.declared.retained.Retained.{Retained}
use Rattle.site_types.specs.declared.site.Site.{Site}
use Rattle.panel_rules.specs.Moments.{Moment}
use Rattle.blocked_points.specs.declared.done_operation.DoneOperation.{DoneOperation}
use Rattle.blocked_points.specs.Operations.{done_newest_first}
use Rattle.due_zones.specs.Deciding.{AreAllDecisive}
use Rattle.due_zones.specs.declared.least_signals.LeastSignals.{LeastSignals}
use Rattle.zone_signals.specs.StandsFor.{StandsFor}
use Rattle.zone_signals.specs.declared.zone_signals.ZoneSignals.{ZoneSignals}

-- the least signals told of all zones decide at which panels the zones are due, whatever befell
abbrev pub TellsRows : Site → ZoneSignals → List LeastSignals → Type 0
TellsRows site least rows = (kept : Retained) (operations : List DoneOperation) (moments : List Moment)
    → StandsFor site kept operations moments least
    → AreAllDecisive site kept (done_newest_first operations) moments rows

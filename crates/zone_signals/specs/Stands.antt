-- What is kept of a zone's signals that have ended by a tick.
use Rattle.std.specs.Prelude.{◌≡◌, ℕ, List, Some, slice_get, length}
use Rattle.site_types.specs.declared.retained.Retained.{Retained}
use Rattle.site_types.specs.declared.site.Site.{Site}
use Rattle.site_types.specs.Done.{Done}
use Rattle.panel_rules.specs.Moments.{Moment}
use Rattle.zone_signals.specs.declared.zone_settled.ZoneSettled.{ZoneSettled}
use Rattle.zone_signals.specs.Ended.{EndedAlone, EndedCalls, EndedRounds, EndedSeconds}
use Rattle.zone_signals.specs.Least.{IsLeastTick}

-- the least tick from which a signal of each kind counts
pub record ZoneStands (site : Site) (kept : Retained) (done : List Done) (moments : List Moment) (now zone : ℕ) (settled
    : ZoneSettled) : Type 0 where
  pub by_hand : IsLeastTick (EndedCalls site kept done moments zone now) settled.by_hand
  pub round : IsLeastTick (EndedRounds site kept done moments zone now) settled.round
  pub alone : IsLeastTick (EndedAlone site kept done moments zone now) settled.alone
  pub second : IsLeastTick (EndedSeconds site kept done moments zone now) settled.second

-- of all zones, each at its place, the least tick from which a signal of each kind counts
pub record ZonesStand (site : Site) (kept : Retained) (done : List Done) (moments : List Moment) (now : ℕ) (zones : List
    ZoneSettled) : Type 0 where
  pub whole : length zones ≡ length site.zones
  pub each : (zone : ℕ) (settled : ZoneSettled) → slice_get zones zone ≡ Some settled
      → ZoneStands site kept done moments now zone settled

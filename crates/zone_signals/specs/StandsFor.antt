-- What is kept of all zones once ticks were taken.
use Rattle.std.specs.Prelude.{◌≡◌, ◌↔◌, ℕ, ◌+◌, ◌≤◌, ◌<◌, Bool, List, Option, Some, None, slice_get, length}
use Rattle.site_types.specs.declared.retained.Retained.{Retained}
use Rattle.site_types.specs.declared.site.Site.{Site}
use Rattle.site_types.specs.Done.{Done}
use Rattle.site_types.specs.Profile.{round_of}
use Rattle.site_types.specs.Valid.{IsValid}
use Rattle.panel_rules.specs.Moments.{Moment, tick_of, up_to}
use Rattle.panel_rules.specs.Due.{IsDueAfter}
use Rattle.point_runs.specs.declared.point_run.PointRun.{PointRun}
use Rattle.point_runs.specs.Runs.{RunStands}
use Rattle.blocked_points.specs.declared.done_operation.DoneOperation.{DoneOperation}
use Rattle.blocked_points.specs.Operations.{done_newest_first}
use Rattle.zone_signals.specs.declared.zone_settled.ZoneSettled.{ZoneSettled}
use Rattle.zone_signals.specs.declared.zone_signals.ZoneSignals.{ZoneSignals}
use Rattle.zone_signals.specs.Floors.{FloorsStand}
use Rattle.zone_signals.specs.Kinds.{AreAllMembers}
use Rattle.zone_signals.specs.Rounds.{TellsSignals}
use Rattle.zone_signals.specs.Least.{IsLeastTick}
use Rattle.zone_signals.specs.Stands.{ZoneStands, ZonesStand}
use Rattle.zone_signals.specs.Telling.{SignalsOf}

pub record StandsFor (site : Site) (kept : Retained) (operations : List DoneOperation) (moments : List Moment)
    (zones : ZoneSignals) : Type 0 where
  pub valid : IsValid site
  pub floors : FloorsStand site operations (tick_of moments) zones.floors
  pub members : AreAllMembers site zones.members.items
  pub settled : ZonesStand site kept (done_newest_first operations) moments (tick_of moments) zones.settled.items

-- for each point of the site the run of the ticks so far at which it signals
pub record AreRunsOfSignals (site : Site) (kept : Retained) (operations : List DoneOperation) (moments : List Moment)
    (runs : List PointRun) : Type 0 where
  pub signals : ℕ → ℕ → Bool
  pub tells : TellsSignals site kept (done_newest_first operations) moments signals
  pub whole : length runs ≡ length site.points
  pub each : (point : ℕ) (run : PointRun) → slice_get runs point ≡ Some run
      → RunStands (signals point) (round_of site.format) (tick_of moments) run

-- a tick later, with all that was before it
pub record IsNextTick (before moments : List Moment) : Type 0 where
  pub later : tick_of moments ≡ tick_of before + 1
  pub past : (tick : ℕ) → tick ≤ tick_of before → up_to tick moments ≡ up_to tick before

-- a signal that counts from a tick on, if there is one, is due at a panel
abbrev pub IsDueSince : Site → Retained → List Done → List Moment → ℕ → ℕ → Option ℕ → Type 0
IsDueSince site kept done moments zone panel None = ⊥
IsDueSince site kept done moments zone panel (Some settled) =
    IsDueAfter site kept done moments zone panel settled

-- what is kept of some ticks becomes what is kept of one more
abbrev pub TakesTick : Site → List DoneOperation → List PointRun → ℕ → ZoneSignals → ZoneSignals → Type 0
TakesTick site operations runs now old new =
    (kept : Retained) (before moments : List Moment) → StandsFor site kept operations before old
    → AreRunsOfSignals site kept operations before runs → IsNextTick before moments → now ≡ tick_of moments
    → StandsFor site kept operations moments new

-- what is kept of a zone of the site
abbrev pub TellsZone : ZoneSignals → ℕ → ZoneSettled → Type 0
TellsZone zones zone settled =
    (site : Site) (kept : Retained) (operations : List DoneOperation) (moments : List Moment)
    → StandsFor site kept operations moments zones → zone < length site.zones
    → ZoneStands site kept (done_newest_first operations) moments (tick_of moments) zone settled

-- the least tick from which on a signal of some kinds counts, of those that have ended
abbrev pub TellsLeast : SignalsOf → Site → ZoneSignals → ℕ → Option ℕ → Type 0
TellsLeast Ended site zones zone least =
    (kept : Retained) (operations : List DoneOperation) (moments : List Moment)
    → StandsFor site kept operations moments zones → zone < length site.zones
    → IsLeastTick (Ended site kept (done_newest_first operations) moments zone (tick_of moments)) least

-- a zone is due at a panel exactly where a signal is that counts from this tick on
abbrev pub TellsWhenDue : (Site → Retained → List Done → List Moment → ℕ → ℕ → Type 0) → Site → ZoneSignals → ℕ
    → Option ℕ → Type 0
TellsWhenDue Due site zones zone settled =
    (kept : Retained) (operations : List DoneOperation) (moments : List Moment) (panel : ℕ)
    → StandsFor site kept operations moments zones → zone < length site.zones
    → Due site kept (done_newest_first operations) moments zone panel
    ↔ IsDueSince site kept (done_newest_first operations) moments zone panel settled

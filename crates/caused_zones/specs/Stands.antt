-- What is kept of the ticks and operations that were taken.
use Rattle.std.specs.Prelude.{◌≡◌, ℕ, ◌+◌, ◌≤◌, ◌<◌, ◌==◌, ◌&&◌, Bool, true, false, List, ◌∷◌, Some, length, slice_get}
use Rattle.std.specs.Prelude.{slice_index_or, take}
use Rattle.std.specs.List.{list_any}
use Rattle.site_types.specs.declared.answer.Answer.{Answer}
use Rattle.site_types.specs.declared.retained.Retained.{Retained}
use Rattle.site_types.specs.declared.site.Site.{Site}
use Rattle.site_types.specs.Done.{Done, moves_floor}
use Rattle.site_types.specs.Profile.{round_of}
use Rattle.site_types.specs.Valid.{IsValid}
use Rattle.coincidence_rules.specs.Alarm.{calls}
use Rattle.coincidence_rules.specs.Confirmed.{confirms}
use Rattle.panel_rules.specs.Answers.{answers}
use Rattle.panel_rules.specs.Caused.{IsCausedAt, IsCausedByHand}
use Rattle.panel_rules.specs.Due.{SignalsAt}
use Rattle.panel_rules.specs.Moments.{Moment, TickBlock, moments, tick_of}
use Rattle.panel_rules.specs.Records.{AreOrdered}
use Rattle.panel_rules.specs.Zones.{panel_of_zone}
use Rattle.blocked_points.specs.declared.done_operation.DoneOperation.{DoneOperation}
use Rattle.blocked_points.specs.Operations.{AreDoneInOrder, done_newest_first}
use Rattle.signal_points.specs.Stands.{AreSignalRuns}
use Rattle.caused_zones.specs.declared.cause.Cause.{Cause}
use Rattle.caused_zones.specs.declared.caused_parts.CausedParts.{CausedParts}
use Rattle.caused_zones.specs.declared.caused_zones.CausedZones.{CausedZones}
use Rattle.caused_zones.specs.declared.point_mark.PointMark.{PointMark}
use Rattle.point_runs.specs.declared.point_run.PointRun.{PointRun}
use Rattle.caused_zones.specs.Causes.{last_caused}
use Rattle.caused_zones.specs.Counting.{CountsAt, CountsThrough}
use Rattle.caused_zones.specs.Judging.{mark_at}
use Rattle.caused_zones.specs.Marks.{has_run}
use Rattle.caused_zones.specs.Undoing.{undoes_at, was_undone}

-- the latest of the ticks by now at which a zone was caused, 0 where there is none
pub record IsLastCaused (Caused : ℕ → Type 0) (now last : ℕ) : Type 0 where
  pub is : 1 ≤ last → Caused last
  pub past : last ≤ now
  pub latest : (tick : ℕ) → tick ≤ now → Caused tick → (1 ≤ last) × (tick ≤ last)

-- an answer of a stamp passes a test
abbrev pub was_given : Site → List Moment → ℕ → (Answer → Bool) → ℕ → Bool
was_given site before zone test stamp =
    list_any (λ a. (a.stamp.0 == stamp) && test a) (answers site (panel_of_zone site zone) before)

module _ (site : Site) (kept : Retained) (done taken : List Done) (before : List Moment) where
  -- the ticks in which a point's answers counted, and no operation taken has undone that
  pub record MarkStands (point : ℕ) (mark : PointMark) : Type 0 where
    pub last : 1 ≤ mark.last → CountsAt site kept done before point mark.last
    pub last_lasts : 1 ≤ mark.last → was_undone (undoes_at site point) mark.last taken ≡ false
    pub latest : (tick : ℕ) → CountsAt site kept done before point tick
        → was_undone (undoes_at site point) tick taken ≡ false → tick ≤ mark.last
    pub run : 1 ≤ mark.last → CountsThrough site kept done before point mark.first mark.last
    pub run_lasts : 1 ≤ mark.last → was_undone (undoes_at site point) mark.first taken ≡ false
    pub earliest : 1 ≤ mark.last → (first : ℕ) → CountsThrough site kept done before point first mark.last
        → was_undone (undoes_at site point) first taken ≡ false → mark.first ≤ first

  -- the cause of a zone, by the stamps at which it was given one
  pub record CauseStands (zone now : ℕ) (given : ℕ → Bool) (Caused : ℕ → Type 0) (cause : Cause) : Type 0 where
    pub stands : cause.stands ≡ true → (stamp : ℕ) × (given stamp ≡ true)
        × (was_undone (moves_floor site zone) stamp taken ≡ false)
    pub falls : cause.stands ≡ false → (stamp : ℕ) → given stamp ≡ true
        → was_undone (moves_floor site zone) stamp taken ≡ true
    pub last : IsLastCaused Caused now (last_caused now cause)

  abbrev pub AlarmStands : ℕ → Cause → Type 0
  AlarmStands zone cause =
      CauseStands zone (tick_of before)
      (was_given site before zone (confirms site kept done (answers site (panel_of_zone site zone) before) zone))
      (IsCausedAt site kept done before zone) cause

  abbrev pub HandStands : ℕ → Cause → Type 0
  HandStands zone cause =
      CauseStands zone (tick_of before) (was_given site before zone (calls site kept done zone))
      (IsCausedByHand site kept done before zone) cause

-- all that is kept of points and zones
pub record PartsStand (site : Site) (kept : Retained) (done taken : List Done) (before : List Moment) (parts :
    CausedParts) : Type 0 where
  pub points : length parts.marks.items ≡ length site.points
  pub alarm_zones : length parts.alarms.items ≡ length site.zones
  pub hand_zones : length parts.by_hand.items ≡ length site.zones
  pub marks_stand : (point : ℕ) → MarkStands site kept done taken before point (mark_at parts.marks.items point)
  pub alarms_stand : (zone : ℕ) (other : Cause) → zone < length site.zones
      → AlarmStands site kept done taken before zone (slice_index_or parts.alarms.items zone other)
  pub hands_stand : (zone : ℕ) (other : Cause) → zone < length site.zones
      → HandStands site kept done taken before zone (slice_index_or parts.by_hand.items zone other)

-- of these operations, the oldest first, those were taken that were done before a tick
pub record AreTakenBefore (operations : List DoneOperation) (tick taken : ℕ) : Type 0 where
  pub in_order : AreDoneInOrder operations
  pub within : taken ≤ length operations
  pub earlier : (place : ℕ) (d : DoneOperation) → place < taken → slice_get operations place ≡ Some d
      → d.tick.0 < tick
  pub later : (place : ℕ) (d : DoneOperation) → taken ≤ place → slice_get operations place ≡ Some d
      → tick ≤ d.tick.0

-- what operations and ticks made of all that is kept
abbrev pub PartsAfter : Site → Retained → List DoneOperation → ℕ → List TickBlock → CausedParts → Type 0
PartsAfter site kept operations taken ticks parts =
    PartsStand site kept (done_newest_first operations) (done_newest_first (take taken operations)) (moments ticks)
    parts

pub record StandsFor (site : Site) (kept : Retained) (operations : List DoneOperation) (ticks : List TickBlock)
    (caused : CausedZones) : Type 0 where
  pub round : caused.round ≡ round_of site.format
  pub now : caused.latest.0 ≡ length ticks
  pub are_taken : AreTakenBefore operations (length ticks) caused.taken
  pub parts : PartsAfter site kept operations caused.taken ticks caused.parts

-- which points signal at the last of the ticks, by runs of ticks in which they do
pub record TellSignals (site : Site) (kept : Retained) (operations : List DoneOperation) (ticks : List TickBlock)
    (runs : List PointRun) : Type 0 where
  pub some : (point : ℕ) → has_run runs point ≡ true
      → SignalsAt site kept (done_newest_first operations) (moments ticks) point (length ticks)
  pub all : (point : ℕ) → point < length site.points
      → SignalsAt site kept (done_newest_first operations) (moments ticks) point (length ticks)
      → has_run runs point ≡ true

-- the operations from a place on and before another are taken, each done in the last tick
abbrev pub TakesOperations : Site → List DoneOperation → ℕ → ℕ → CausedParts → CausedParts → Type 0
TakesOperations site operations from end old new =
    (kept : Retained) (ticks : List TickBlock) → from ≤ end
    → ((place : ℕ) (d : DoneOperation) → from ≤ place → place < end → slice_get operations place ≡ Some d
    → d.tick.0 ≡ length ticks)
    → PartsAfter site kept operations from ticks old → PartsAfter site kept operations end ticks new

-- the answers of the next tick are taken
abbrev pub TakesTickAnswers : Site → ℕ → ℕ → List PointRun → CausedParts → CausedParts → Type 0
TakesTickAnswers site round now runs old new =
    (kept : Retained) (operations : List DoneOperation) (taken : ℕ) (ticks : List TickBlock) (tick : TickBlock)
    → IsValid site → AreOrdered site.panels (tick ∷ ticks) → round ≡ round_of site.format
    → now ≡ length ticks + 1 → AreTakenBefore operations now taken
    → TellSignals site kept operations (tick ∷ ticks) runs
    → PartsAfter site kept operations taken ticks old → PartsAfter site kept operations taken (tick ∷ ticks) new

-- the latest tick at which a zone was caused to be in alarm, and to be in alarm by hand
abbrev pub IsLastAlarm : Site → Retained → List DoneOperation → List TickBlock → ℕ → ℕ → Type 0
IsLastAlarm site kept operations ticks zone last =
    IsLastCaused (IsCausedAt site kept (done_newest_first operations) (moments ticks) zone) (length ticks) last

abbrev pub IsLastCall : Site → Retained → List DoneOperation → List TickBlock → ℕ → ℕ → Type 0
IsLastCall site kept operations ticks zone last =
    IsLastCaused (IsCausedByHand site kept (done_newest_first operations) (moments ticks) zone) (length ticks) last

-- what is kept of points and zones tells it, and the whole does
abbrev pub PartsTellAlarm : CausedParts → ℕ → ℕ → ℕ → Type 0
PartsTellAlarm parts zone now last =
    (site : Site) (kept : Retained) (operations : List DoneOperation) (taken : ℕ) (ticks : List TickBlock)
    → PartsAfter site kept operations taken ticks parts → zone < length site.zones → now ≡ length ticks
    → IsLastAlarm site kept operations ticks zone last

abbrev pub PartsTellCall : CausedParts → ℕ → ℕ → ℕ → Type 0
PartsTellCall parts zone now last =
    (site : Site) (kept : Retained) (operations : List DoneOperation) (taken : ℕ) (ticks : List TickBlock)
    → PartsAfter site kept operations taken ticks parts → zone < length site.zones → now ≡ length ticks
    → IsLastCall site kept operations ticks zone last

abbrev pub TellsAlarm : CausedZones → ℕ → ℕ → Type 0
TellsAlarm caused zone last =
    (site : Site) (kept : Retained) (operations : List DoneOperation) (ticks : List TickBlock)
    → StandsFor site kept operations ticks caused → zone < length site.zones
    → IsLastAlarm site kept operations ticks zone last

abbrev pub TellsCall : CausedZones → ℕ → ℕ → Type 0
TellsCall caused zone last =
    (site : Site) (kept : Retained) (operations : List DoneOperation) (ticks : List TickBlock)
    → StandsFor site kept operations ticks caused → zone < length site.zones
    → IsLastCall site kept operations ticks zone last

-- the next tick is taken: of the operations those that come into force, and the answers of points
abbrev pub TakesNextTick : Site → ℕ → List DoneOperation → List PointRun → CausedZones → CausedZones → Type 0
TakesNextTick site now operations runs old new =
    (kept : Retained) (ticks : List TickBlock) (tick : TickBlock) → IsValid site
    → AreOrdered site.panels (tick ∷ ticks) → now ≡ length ticks + 1
    → AreSignalRuns site kept operations (tick ∷ ticks) runs → StandsFor site kept operations ticks old
    → StandsFor site kept operations (tick ∷ ticks) new

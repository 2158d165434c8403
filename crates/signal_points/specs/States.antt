-- What is kept of that which decides which points signal.
use Rattle.std.specs.Prelude.{◌≡◌, ℕ, ◌+◌, Bool, false, List, ◌∷◌, length, map}
use Rattle.site_types.specs.declared.event.Event.{Event}
use Rattle.site_types.specs.declared.retained.Retained.{Retained}
use Rattle.site_types.specs.declared.site.Site.{Site}
use Rattle.site_types.specs.Valid.{IsValid}
use Rattle.record_lines.specs.Events.{event_view}
use Rattle.panel_rules.specs.Moments.{TickBlock, moments}
use Rattle.blocked_points.specs.declared.done_operation.DoneOperation.{DoneOperation}
use Rattle.blocked_points.specs.Operations.{done_newest_first}
use Rattle.blocked_points.specs.Stands.{StandsFor as BlockedStandsFor}
use Rattle.field_states.specs.Field.{FieldStands}
use Rattle.signal_points.specs.declared.point_states.PointStates.{PointStates}
use Rattle.signal_points.specs.Signalling.{signals_at}

-- the points and cables after these ticks, and the operations in force at the last of them
pub record PointsStand (site : Site) (kept : Retained) (operations : List DoneOperation) (ticks : List TickBlock)
    (states : PointStates) : Type 0 where
  pub valid : IsValid site
  pub field : FieldStands site (moments ticks) states.field
  pub blocked : BlockedStandsFor site kept operations (length ticks) states.blocked

-- the tick that comes next, with its number and its events, however their codes are held
abbrev pub NextTick : List TickBlock → TickBlock → ℕ → List Event → Type 0
NextTick ticks next number events = (number ≡ length ticks + 1)
    × (next.events ≡ map event_view events)

-- whether a point signals at the last of these ticks
abbrev pub signals_now : Site → Retained → List DoneOperation → List TickBlock → ℕ → Bool
signals_now site kept operations ticks point =
    signals_at site kept (done_newest_first operations) (moments ticks) point (length ticks)

-- in the next tick the same points signal
abbrev pub NoSignalChanges : Site → Retained → List DoneOperation → TickBlock → List TickBlock → Type 0
NoSignalChanges site kept operations next ticks = (point : ℕ)
    → signals_now site kept operations (next ∷ ticks) point ≡ signals_now site kept operations ticks point

-- what the next tick makes of what is kept, and that it tells where the same points may not signal in it
pub record TakesTick (site : Site) (operations : List DoneOperation) (number : ℕ) (events : List Event) (told : Bool)
    (old new : PointStates) : Type 0 where
  pub stands : (kept : Retained) (ticks : List TickBlock) (next : TickBlock)
      → PointsStand site kept operations ticks old → NextTick ticks next number events
      → PointsStand site kept operations (next ∷ ticks) new
  pub same : told ≡ false → (kept : Retained) (ticks : List TickBlock) (next : TickBlock)
      → PointsStand site kept operations ticks old → NextTick ticks next number events
      → NoSignalChanges site kept operations next ticks

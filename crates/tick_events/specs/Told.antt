-- Which events the ticks of a record have.
use Rattle.std.specs.Prelude.{◌≡◌, ℕ, zero, suc, ◌-◌, ◌≤◌, nat_le, List, [], ◌∷◌, ◌++◌, map, length, take, drop}
use Rattle.std.specs.Prelude.{Option, Some, None, if◌then◌else◌}
use Rattle.site_types.specs.declared.event.Event.{Event}
use Rattle.record_lines.specs.Events.{event_view}
use Rattle.panel_rules.specs.Moments.{TickBlock}
use Rattle.tick_events.specs.declared.tick_events.TickEvents.{TickEvents}

-- of ticks that stand with the newest first, those up to a tick
abbrev pub ticks_until : ℕ → List TickBlock → List TickBlock
ticks_until tick [] = []
ticks_until tick (newest ∷ ticks) =
    if nat_le (length (newest ∷ ticks)) tick then newest ∷ ticks else ticks_until tick ticks

-- the newest tick has the events from a place on, the ticks before it those before that place
pub record EndsWith (Earlier : List Event → List ℕ → Type 0) (newest : TickBlock) (events : List Event) (starts :
    List ℕ) : Type 0 where
  pub start : ℕ
  pub before : List ℕ
  pub starts_are : starts ≡ before ++ start ∷ []
  pub within : start ≤ length events
  pub earlier : Earlier (take start events) before
  pub last : map event_view (drop start events) ≡ newest.events

-- the ticks have these events, the earliest first, each tick's from its place on
abbrev pub ArePartedEvents : List TickBlock → List Event → List ℕ → Type 0
ArePartedEvents [] events starts = (events ≡ []) × (starts ≡ [])
ArePartedEvents (newest ∷ ticks) events starts = EndsWith (ArePartedEvents ticks) newest events starts

-- the ticks have the events of a `TickEvents`, the earliest first, each tick's from its place on
abbrev pub TellsEvents : List TickBlock → TickEvents → Type 0
TellsEvents ticks told = ArePartedEvents ticks told.events.items told.starts.items

-- a tick of these has these events
pub record TellsEventsOfTick (ticks : List TickBlock) (tick : ℕ) (events : List Event) : Type 0 where
  pub block : TickBlock
  pub is_newest : ticks_until tick ticks ≡ block ∷ ticks_until (tick - 1) ticks
  pub events_are : block.events ≡ map event_view events

-- what befalls by a line in the newest of so many ticks: before the first one nothing
abbrev pub befalls : ℕ → Event → Option Event
befalls zero event = None
befalls (suc ticks) event = Some event

-- one event more, if there is one
abbrev pub and_event : Option Event → List Event → List Event
and_event None events = events
and_event (Some event) events = events ++ event ∷ []

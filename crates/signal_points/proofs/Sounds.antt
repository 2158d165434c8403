-- What turns, and events of other things, leave as it is.
use Rattle.std.proofs.Common.{◌≡◌, ℕ, ◌+◌, ◌≤◌, ◌<◌, Bool, true, false, List, [], ◌∷◌, ◌++◌, length, take, get_or, map, refl, sym, ◌∙◌, ap, subst}
use Rattle.std.proofs.lemmas.List.{map-append, take_all, take_more}
use Rattle.tick_units.specs.declared.seat.Seat.{Seat}
use Rattle.tick_units.specs.declared.task.Task.{Task}
use Rattle.tick_units.specs.declared.task.Task.TheVariants.{Keep}
use Rattle.site_types.specs.declared.event.Event.{Event}
use Rattle.site_types.specs.declared.event.Event.TheVariants.{Point, Cable, Supply, Link, Confirmed, Op}
use Rattle.site_types.specs.declared.site.Site.{Site}
use Rattle.record_lines.specs.Events.{event_view}
use Rattle.panel_rules.specs.Moments.{Moment, Began, Happened, TickBlock, moments, and_events, and_turns, turn_of}
use Rattle.field_states.specs.declared.field_states.FieldStates.{FieldStates}
use Rattle.field_states.specs.Field.{FieldStands}
use Rattle.field_states.specs.Sounding.{sounds_at}
use Rattle.signal_points.specs.Reports.{ChangeNoSound, tells_of_field}

-- ---- a tick begins, and turns are made

module _ (site : Site) (field : FieldStates) (before : List Moment) (stands : FieldStands site before field) where
  pub begun_stands : FieldStands site (Began ∷ before) field
  begun_stands = record {
    states = record { size = stands.states.size; each = stands.states.each };
    lines = record { size = stands.lines.size; each = stands.lines.each };
  }

  turn_stands : (failed : Bool) (panel : ℕ) (task : Task) → FieldStands site (turn_of failed panel task ∷ before) field
  turn_stands failed panel Keep = record {
    states = record { size = stands.states.size; each = stands.states.each };
    lines = record { size = stands.lines.size; each = stands.lines.each };
  }
  turn_stands failed panel task = record {
    states = record { size = stands.states.size; each = stands.states.each };
    lines = record { size = stands.lines.size; each = stands.lines.each };
  }

pub turns_stand : (site : Site) (field : FieldStates) (failed : Bool) (seats : List Seat) (before : List Moment) → FieldStands site before field
    → FieldStands site (and_turns failed seats before) field
turns_stand site field failed [] before stands = stands
turns_stand site field failed (seat ∷ seats) before stands =
    turns_stand site field failed seats (turn_of failed seat.panel seat.task ∷ before)
    (turn_stands site field before stands failed seat.panel seat.task)

turn_leaves : (site : Site) (failed : Bool) (panel : ℕ) (task : Task) (before : List Moment) (point : ℕ)
    → sounds_at site (turn_of failed panel task ∷ before) point ≡ sounds_at site before point
turn_leaves site failed panel Keep before point = refl
turn_leaves site failed panel task before point = refl

pub turns_leave : (site : Site) (failed : Bool) (seats : List Seat) (before : List Moment) (point : ℕ)
    → sounds_at site (and_turns failed seats before) point ≡ sounds_at site before point
turns_leave site failed [] before point = refl
turns_leave site failed (seat ∷ seats) before point =
    turns_leave site failed seats (turn_of failed seat.panel seat.task ∷ before) point ∙ turn_leaves site failed seat.panel seat.task before point

-- ---- events

pub event_leaves : (site : Site) (event : Event) (before : List Moment) (point : ℕ) → tells_of_field event ≡ false
    → sounds_at site (Happened event ∷ before) point ≡ sounds_at site before point
event_leaves site (Point told state) before point other = cc
event_leaves site (Cable panel line piece state) before point other = cc
event_leaves site (Supply panel kind bad) before point other = refl
event_leaves site (Link link up) before point other = refl
event_leaves site (Confirmed output) before point other = refl
event_leaves site (Op panel code operation) before point other = refl

-- a code that is held otherwise is no matter
tells_view : (event : Event) → tells_of_field (event_view event) ≡ tells_of_field event
tells_view (Point told state) = refl
tells_view (Cable panel line piece state) = refl
tells_view (Supply panel kind bad) = refl
tells_view (Link link up) = refl
tells_view (Confirmed output) = refl
tells_view (Op panel code operation) = refl

view_stands : (site : Site) (field : FieldStates) (before : List Moment) (event : Event) → FieldStands site (Happened event ∷ before) field
    → FieldStands site (Happened (event_view event) ∷ before) field
view_stands site field before (Point told state) stands = stands
view_stands site field before (Cable panel line piece state) stands = stands
view_stands site field before (Supply panel kind bad) stands = stands
view_stands site field before (Link link up) stands = stands
view_stands site field before (Confirmed output) stands = stands
view_stands site field before (Op panel code operation) stands = record {
  states = record { size = stands.states.size; each = stands.states.each };
  lines = record { size = stands.lines.size; each = stands.lines.each };
}

-- what was taken of some events
pub record AreTaken (site : Site) (events : List Event) (told : Bool) (old new : FieldStates) : Type 0 where
  pub stands : (before : List Moment) → FieldStands site before old → FieldStands site (and_events (map event_view events) before) new
  pub same : told ≡ false → ChangeNoSound site (map event_view events)

events-push : (events : List Event) (event : Event) (before : List Moment) → and_events (events ++ event ∷ []) before ≡ Happened event ∷ and_events events before
events-push [] event before = refl
events-push (first ∷ events) event before = events-push events event (Happened first ∷ before)

events_more : (events : List Event) (place : ℕ) (other : Event) (before : List Moment) → place < length events
    → and_events (map event_view (take (place + 1) events)) before
    ≡ Happened (event_view (get_or events place other)) ∷ and_events (map event_view (take place events)) before
events_more events place other before within =
    ap (λ es. and_events (map event_view es) before) (take_more events place other within)
    ∙ ap (λ es. and_events es before) (map-append event_view (take place events) (get_or events place other ∷ []))
    ∙ events-push (map event_view (take place events)) (event_view (get_or events place other)) before

pub taken_more : (site : Site) (events : List Event) (place : ℕ) (other event : Event) (told is_told both : Bool) (old field new : FieldStates)
    → place < length events → AreTaken site (take place events) told old field → event ≡ get_or events place other
    → ((before : List Moment) → FieldStands site before field → FieldStands site (Happened event ∷ before) new)
    → is_told ≡ tells_of_field event
    → (both ≡ false → (told ≡ false) × (is_told ≡ false))
    → AreTaken site (take (place + 1) events) both old new
taken_more site events place other event told is_told both old field new within are is takes tells quiet = record {
  stands = λ before h. subst (λ m. FieldStands site m new) (sym (all before))
      (view_stands site new (so_far before) event (takes (so_far before) (are.stands before h)));
  same = λ h before point. (
      let q = quiet h in
      ap (λ m. sounds_at site m point) (all before)
      ∙ event_leaves site (event_view event) (so_far before) point (tells_view event ∙ sym tells ∙ q.1) ∙ are.same q.0 before point);
}
  where
    so_far : List Moment → List Moment
    so_far before = and_events (map event_view (take place events)) before

    all : (before : List Moment) → and_events (map event_view (take (place + 1) events)) before ≡ Happened (event_view event) ∷ so_far before
    all before = events_more events place other before within ∙ ap (λ e. Happened (event_view e) ∷ so_far before) (sym is)

pub taken_all : (site : Site) (events : List Event) (count : ℕ) (told : Bool) (old new : FieldStates) → length events ≤ count
    → AreTaken site (take count events) told old new → AreTaken site events told old new
taken_all site events count told old new ended = subst (λ es. AreTaken site es told old new) (take_all count events ended)

pub never : (b : Bool) → b ≡ true → b ≡ false → ⊥
never true p q = cc
never false p q = cc

-- ---- a whole tick

module _ (site : Site) (tick : TickBlock) (ticks : List TickBlock) (events : List Event) (same : tick.events ≡ events) where
  pub tick_stands : (old new : FieldStates) → ((before : List Moment) → FieldStands site before old → FieldStands site (and_events events before) new)
      → FieldStands site (moments ticks) old → FieldStands site (moments (tick ∷ ticks)) new
  tick_stands old new takes stands =
      turns_stand site new tick.failed tick.order (and_events tick.events (Began ∷ moments ticks))
      (subst (λ es. FieldStands site (and_events es (Began ∷ moments ticks)) new) (sym same)
      (takes (Began ∷ moments ticks) (begun_stands site old (moments ticks) stands)))

  pub tick_leaves : ChangeNoSound site events → (point : ℕ) → sounds_at site (moments (tick ∷ ticks)) point ≡ sounds_at site (moments ticks) point
  tick_leaves none point =
      turns_leave site tick.failed tick.order (and_events tick.events (Began ∷ moments ticks)) point
      ∙ ap (λ es. sounds_at site (and_events es (Began ∷ moments ticks)) point) same ∙ none (Began ∷ moments ticks) point

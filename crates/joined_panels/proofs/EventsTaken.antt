-- Events are taken one after another, and the turns of a tick change no link.
use Rattle.std.proofs.Common.{◌≡◌, ℕ, ◌+◌, ◌≤◌, ◌<◌, Bool, true, false, List, [], ◌∷◌, ◌++◌, length, take, get_or, map, refl, sym, ◌∙◌, ap}
use Rattle.std.proofs.lemmas.List.{take_more}
use Rattle.tick_units.specs.declared.seat.Seat.{Seat}
use Rattle.tick_units.specs.declared.task.Task.{Task}
use Rattle.tick_units.specs.declared.task.Task.TheVariants.{Keep}
use Rattle.site_types.specs.declared.event.Event.{Event}
use Rattle.site_types.specs.declared.event.Event.TheVariants.{Point, Cable, Supply, Link, Confirmed, Op}
use Rattle.record_lines.specs.Events.{event_view}
use Rattle.panel_rules.specs.Moments.{Moment, Began, Happened, TickBlock, moments, and_events, and_turns, turn_of}
use Rattle.panel_rules.specs.States.{is_up, told_link}
use Rattle.joined_panels.specs.declared.links.Links.{Links}
use Rattle.joined_panels.specs.Links.{HasLinks, is_link_up}

-- what was taken of some events: none of them told of a link where the links are the same
pub record AreTold (events : List Event) (told : Bool) (old new : Links) : Type 0 where
  pub panels : new.panels ≡ old.panels
  pub up : (before : List Moment) → HasLinks before old → HasLinks (and_events events before) new
  pub silent : told ≡ false → new ≡ old

events-push : (events : List Event) (event : Event) (before : List Moment) → and_events (events ++ event ∷ []) before ≡ Happened event ∷ and_events events before
events-push [] event before = refl
events-push (first ∷ events) event before = events-push events event (Happened first ∷ before)

pub told_more : (events : List Event) (place : ℕ) (event : Event) (told is_told both : Bool) (old links new : Links) → place < length events
    → AreTold (take place events) told old links
    → new.panels ≡ links.panels
    → ((link : ℕ) → 1 ≤ link → link ≤ 8 → is_link_up new link ≡ told_link link (get_or events place event) (is_link_up links link))
    → (is_told ≡ false → new ≡ links)
    → (both ≡ false → (told ≡ false) × (is_told ≡ false))
    → AreTold (take (place + 1) events) both old new
told_more events place event told is_told both old links new within are panels up silent quiet =
    let now = get_or events place event in
    record {
      panels = panels ∙ are.panels;
      up = λ before has link a b. up link a b ∙ ap (told_link link now) (are.up before has link a b)
          ∙ ap (is_up link) (sym (ap (λ es. and_events es before) (take_more events place event within) ∙ events-push (take place events) now before));
      silent = λ h. (let q = quiet h in silent q.1 ∙ are.silent q.0);
    }

pub never : (b : Bool) → b ≡ true → b ≡ false → ⊥
never true p q = cc
never false p q = cc

-- a turn changes no link
turn_leaves : (failed : Bool) (panel : ℕ) (task : Task) (before : List Moment) (link : ℕ) → is_up link (turn_of failed panel task ∷ before) ≡ is_up link before
turn_leaves failed panel Keep before link = refl
turn_leaves failed panel task before link = refl

pub turns_leave : (failed : Bool) (seats : List Seat) (before : List Moment) (link : ℕ) → is_up link (and_turns failed seats before) ≡ is_up link before
turns_leave failed [] before link = refl
turns_leave failed (seat ∷ seats) before link =
    turns_leave failed seats (turn_of failed seat.panel seat.task ∷ before) link ∙ turn_leaves failed seat.panel seat.task before link

-- an event tells a link the same however its code is held
told_view : (link : ℕ) (event : Event) (was : Bool) → told_link link (event_view event) was ≡ told_link link event was
told_view link (Point point state) was = refl
told_view link (Cable panel line piece state) was = refl
told_view link (Supply panel kind bad) was = refl
told_view link (Link other up) was = refl
told_view link (Confirmed output) was = refl
told_view link (Op panel code operation) was = refl

events_view : (link : ℕ) (events : List Event) (one other : List Moment) → is_up link one ≡ is_up link other
    → is_up link (and_events (map event_view events) one) ≡ is_up link (and_events events other)
events_view link [] one other same = same
events_view link (event ∷ events) one other same =
    events_view link events (Happened (event_view event) ∷ one) (Happened event ∷ other)
    (told_view link event (is_up link one) ∙ ap (told_link link event) same)

-- the links after a tick are those after its events
pub after_tick : (tick : TickBlock) (ticks : List TickBlock) (old new : Links) (events : List Event) → tick.events ≡ map event_view events
    → ((before : List Moment) → HasLinks before old → HasLinks (and_events events before) new) → HasLinks (moments ticks) old
    → HasLinks (moments (tick ∷ ticks)) new
after_tick tick ticks old new events same up has link a b =
    up (Began ∷ moments ticks) has link a b
    ∙ sym (events_view link events (Began ∷ moments ticks) (Began ∷ moments ticks) refl)
    ∙ ap (λ es. is_up link (and_events es (Began ∷ moments ticks))) (sym same)
    ∙ sym (turns_leave tick.failed tick.order (and_events tick.events (Began ∷ moments ticks)) link)

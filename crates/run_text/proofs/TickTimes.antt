-- The ticks of a record: how many there are, and what had befallen up to each.
use Rattle.std.proofs.Common.{◌≡◌, ◌∙◌, ℕ, ◌≤◌, ◌<◌, ◌+◌, Bool, List, [], ◌∷◌, length, false, inl, inr, refl, sym, ap, arith}
use Rattle.std.specs.Prelude.{nat_le}
use Rattle.std.proofs.lemmas.Bool.Decides.{leb_tells}
use Rattle.tick_units.specs.declared.seat.Seat.{Seat}
use Rattle.tick_units.specs.declared.task.Task.{Task}
use Rattle.tick_units.specs.declared.task.Task.TheVariants.{Keep}
use Rattle.site_types.specs.declared.event.Event.{Event}
use Rattle.panel_rules.specs.Moments.{Moment, Began, Happened, TickBlock, IsPast, present, later, moments, and_events, and_turns, turn_of, tick_of, up_to}
use Rattle.panel_rules.proofs.Stays.{up_to_here}
use Rattle.panel_rules.proofs.Turns.{past_on}
use Rattle.panel_laws.proofs.DriveTurns.{up_to_past}
use Rattle.panel_laws.proofs.DueOn.{same_past}

-- ---- turns and events begin no tick

turn_tick : (failed : Bool) (panel : ℕ) (task : Task) (before : List Moment) → tick_of (turn_of failed panel task ∷ before) ≡ tick_of before
turn_tick failed panel Keep before = refl
turn_tick failed panel task before = refl

turns_tick : (failed : Bool) (seats : List Seat) (before : List Moment) → tick_of (and_turns failed seats before) ≡ tick_of before
turns_tick failed [] before = refl
turns_tick failed (seat ∷ seats) before =
    turns_tick failed seats (turn_of failed seat.panel seat.task ∷ before) ∙ turn_tick failed seat.panel seat.task before

events_tick : (events : List Event) (before : List Moment) → tick_of (and_events events before) ≡ tick_of before
events_tick [] before = refl
events_tick (event ∷ events) before = events_tick events (Happened event ∷ before)

-- the tick of a record's moments is how many ticks there are
pub tick_moments : (ticks : List TickBlock) → tick_of (moments ticks) ≡ length ticks
tick_moments [] = refl
tick_moments (tick ∷ ticks) =
    let e = tick_moments ticks in
    let turned = turns_tick tick.failed tick.order (and_events tick.events (Began ∷ moments ticks)) in
    let told = events_tick tick.events (Began ∷ moments ticks) in
    omega (arith, e, turned, told)

-- ---- what had befallen before is past

pub turns_past : (failed : Bool) (seats : List Seat) (before : List Moment) → IsPast before (and_turns failed seats before)
turns_past failed [] before = present
turns_past failed (seat ∷ seats) before =
    let turn = turn_of failed seat.panel seat.task in
    past_on before (turn ∷ before) (and_turns failed seats (turn ∷ before)) (later turn before present) (turns_past failed seats (turn ∷ before))

events_past : (events : List Event) (before : List Moment) → IsPast before (and_events events before)
events_past [] before = present
events_past (event ∷ events) before =
    past_on before (Happened event ∷ before) (and_events events (Happened event ∷ before)) (later (Happened event) before present)
    (events_past events (Happened event ∷ before))

begun_past : (tick : TickBlock) (ticks : List TickBlock) → IsPast (Began ∷ moments ticks) (moments (tick ∷ ticks))
begun_past tick ticks =
    let start = Began ∷ moments ticks in
    past_on start (and_events tick.events start) (moments (tick ∷ ticks)) (events_past tick.events start)
    (turns_past tick.failed tick.order (and_events tick.events start))

-- ---- up to a tick

above : (a b : ℕ) → b < a → nat_le a b ≡ false
above a b l = elim (leb_tells a b) [ inl h ↦ (let k = h.1 in absurd (omega (arith, k, l))) | inr h ↦ h.0 ]

-- up to the last tick there is all
pub whole_up_to : (ticks : List TickBlock) → up_to (length ticks) (moments ticks) ≡ moments ticks
whole_up_to ticks = ap (λ t. up_to t (moments ticks)) (sym (tick_moments ticks)) ∙ up_to_here (moments ticks)

-- up to the tick before there is what had befallen by then
pub up_to_before : (tick : TickBlock) (ticks : List TickBlock) → up_to (length ticks) (moments (tick ∷ ticks)) ≡ moments ticks
up_to_before tick ticks =
    let e = tick_moments ticks in
    let start = Began ∷ moments ticks in
    let begins : length ticks < tick_of start = omega (arith, e) in
    up_to_past (length ticks) start (moments (tick ∷ ticks)) (begun_past tick ticks) begins
    ∙ rw (above (tick_of (moments ticks) + 1) (length ticks) begins) (whole_up_to ticks)

-- up to an earlier tick one more changes nothing
pub up_to_earlier : (tick : TickBlock) (ticks : List TickBlock) (t : ℕ) → t ≤ length ticks → up_to t (moments (tick ∷ ticks)) ≡ up_to t (moments ticks)
up_to_earlier tick ticks t by =
    let is = up_to_before tick ticks in
    same_past (moments (tick ∷ ticks)) (length ticks) t by (ap tick_of is ∙ tick_moments ticks) ∙ ap (up_to t) is

-- up to tick 0 there is nothing
pub up_to_none : (ticks : List TickBlock) → up_to 0 (moments ticks) ≡ []
up_to_none [] = refl
up_to_none (tick ∷ ticks) = up_to_earlier tick ticks 0 (omega arith) ∙ up_to_none ticks

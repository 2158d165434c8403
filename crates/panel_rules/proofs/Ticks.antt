-- What a tick of a record adds to the moments before it.
use Rattle.std.proofs.Common.{◌≡◌, ℕ, ◌+◌, List, [], ◌∷◌, inl, inr, refl, ◌∙◌, arith, length-append}
use Rattle.std.proofs.lemmas.Bool.Decides.{eqb_tells}
use Rattle.tick_units.specs.declared.seat.Seat.{Seat}
use Rattle.tick_units.specs.declared.task.Task.{Task}
use Rattle.tick_units.specs.declared.task.Task.TheVariants.{Poll, Decide, Keep}
use Rattle.site_types.specs.declared.event.Event.{Event}
use Rattle.site_types.specs.declared.site.Site.{Site}
use Rattle.panel_rules.specs.Moments.{Moment, Began, Happened, Turned, Kept, TickBlock, moments, and_events, and_turns, turn_of}
use Rattle.panel_rules.specs.Answers.{answers, asked}
use Rattle.panel_rules.specs.Counts.{answer_count, taken_by_decide}
use Rattle.panel_rules.specs.Lanes.{put_by_poll, put_by_decide}
use Rattle.panel_rules.proofs.Counts.{decide_behind}

-- what had befallen when the tick that began last began
abbrev pub at_beginning : List Moment → List Moment
at_beginning [] = []
at_beginning (Began ∷ before) = before
at_beginning (Happened event ∷ before) = at_beginning before
at_beginning (Turned panel task ∷ before) = at_beginning before
at_beginning (Kept failed ∷ before) = at_beginning before

pub turn_keeps_beginning : (failed : _) (panel : ℕ) (task : Task) (before : List Moment)
    → at_beginning (turn_of failed panel task ∷ before) ≡ at_beginning before
turn_keeps_beginning failed panel Keep before = refl
turn_keeps_beginning failed panel task before = refl

turns_keep_beginning : (failed : _) (seats : List Seat) (before : List Moment) → at_beginning (and_turns failed seats before) ≡ at_beginning before
turns_keep_beginning failed [] before = refl
turns_keep_beginning failed (seat ∷ seats) before =
    turns_keep_beginning failed seats (turn_of failed seat.panel seat.task ∷ before) ∙ turn_keeps_beginning failed seat.panel seat.task before

events_keep_beginning : (events : List Event) (before : List Moment) → at_beginning (and_events events before) ≡ at_beginning before
events_keep_beginning [] before = refl
events_keep_beginning (event ∷ events) before = events_keep_beginning events (Happened event ∷ before)

pub tick_begins : (tick : TickBlock) (ticks : List TickBlock) → at_beginning (moments (tick ∷ ticks)) ≡ moments ticks
tick_begins tick ticks =
    turns_keep_beginning tick.failed tick.order (and_events tick.events (Began ∷ moments ticks)) ∙ events_keep_beginning tick.events
    (Began ∷ moments ticks)

-- all answers are those of the ticks before and those of this one
pub answers_since : (site : Site) (panel : ℕ) (before : List Moment)
    → answer_count site panel before ≡ answer_count site panel (at_beginning before) + put_by_poll site panel before
answers_since site panel [] = refl
answers_since site panel (Began ∷ before) = omega arith
answers_since site panel (Happened event ∷ before) = answers_since site panel before
answers_since site panel (Turned other Poll ∷ before) =
    elim (eqb_tells other panel) [
      | inl h ↦ rw h.0 (omega (arith, answers_since site panel before, length-append (answers site panel before) (asked site panel before)))
      | inr h ↦ rw h.0 (answers_since site panel before)
    ]
answers_since site panel (Turned other task ∷ before) = answers_since site panel before
answers_since site panel (Kept failed ∷ before) = answers_since site panel before

pub findings_since : (site : Site) (panel : ℕ) (before : List Moment)
    → taken_by_decide site panel before ≡ taken_by_decide site panel (at_beginning before) + put_by_decide site panel before
findings_since site panel [] = refl
findings_since site panel (Began ∷ before) = omega arith
findings_since site panel (Happened event ∷ before) = findings_since site panel before
findings_since site panel (Turned other Decide ∷ before) =
    elim (eqb_tells other panel) [
      | inl h ↦ rw h.0 (omega (arith, findings_since site panel before, decide_behind site panel before))
      | inr h ↦ rw h.0 (findings_since site panel before)
    ]
findings_since site panel (Turned other task ∷ before) = findings_since site panel before
findings_since site panel (Kept failed ∷ before) = findings_since site panel before

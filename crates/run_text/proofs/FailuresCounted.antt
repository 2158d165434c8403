-- Each tick of a run has one turn of Keep, so its failures are as many as the ticks that it failed in.
use Rattle.std.proofs.Common.{◌≡◌, ◌∙◌, ◌↔◌, ℕ, ◌+◌, Bool, true, false, List, [], ◌∷◌, length, if◌then◌else◌, refl, ap, arith}
use Rattle.std.proofs.lemmas.List.{length-map}
use Rattle.tick_units.specs.declared.seat.Seat.{Seat}
use Rattle.tick_units.specs.declared.task.Task.{Task}
use Rattle.tick_units.specs.declared.task.Task.TheVariants.{Keep}
use Rattle.site_types.specs.declared.event.Event.{Event}
use Rattle.panel_rules.specs.Moments.{Moment, Began, Happened, Turned, Kept, TickBlock, IsRun, has_kept, moments, and_events, and_turns, turn_of}
use Rattle.panel_rules.specs.Records.{AreOrdered}
use Rattle.panel_rules.specs.Timeline.{failed_ticks}
use Rattle.panel_rules.proofs.RecordRuns.{fresh_events, fresh_tick, records_are_runs}
use Rattle.panel_rules.proofs.Turns.{run_tail}
use Rattle.run_text.specs.Failures.{FailuresAreCounted, RecordedAreTheSame, as_recorded, failures, without_failure}
use Rattle.run_text.proofs.TickTimes.{turns_past}

differ : {X : Type 0} (b : Bool) → b ≡ true → b ≡ false → X
differ true e f = absurd cc
differ false e f = absurd cc

module _ (panels : ℕ) (failed : Bool) where
  -- Keep has no second turn in a tick
  kept_once : (seats : List Seat) (before : List Moment) → has_kept before ≡ true → IsRun panels (and_turns failed seats before)
      → failed_ticks (and_turns failed seats before) ≡ failed_ticks before
  kept_once [] before had run = refl
  kept_once (seat ∷ seats) before had run = by seat.task run (λ moment. kept_once seats (moment ∷ before))
    where
      by : (task : Task) → IsRun panels (and_turns failed seats (turn_of failed seat.panel task ∷ before))
          → ((moment : Moment) → has_kept (moment ∷ before) ≡ true → IsRun panels (and_turns failed seats (moment ∷ before))
          → failed_ticks (and_turns failed seats (moment ∷ before)) ≡ failed_ticks (moment ∷ before))
          → failed_ticks (and_turns failed seats (turn_of failed seat.panel task ∷ before)) ≡ failed_ticks before
      by Keep run ih =
          differ (has_kept before) had
          (run_tail panels (Kept failed ∷ before) (and_turns failed seats (Kept failed ∷ before)) (turns_past failed seats (Kept failed ∷ before)) run).1
      by task run ih = ih (Turned seat.panel task) had run

  -- where it has one, the turns of a tick tell of failures what this one does
  as_kept : (seats : List Seat) (before : List Moment) → has_kept before ≡ false → has_kept (and_turns failed seats before) ≡ true
      → IsRun panels (and_turns failed seats before) → failed_ticks (and_turns failed seats before) ≡ failed_ticks (Kept failed ∷ before)
  as_kept [] before owed had run = differ (has_kept before) had owed
  as_kept (seat ∷ seats) before owed had run = by seat.task had run (λ moment. as_kept seats (moment ∷ before))
    where
      by : (task : Task) → has_kept (and_turns failed seats (turn_of failed seat.panel task ∷ before)) ≡ true
          → IsRun panels (and_turns failed seats (turn_of failed seat.panel task ∷ before))
          → ((moment : Moment) → has_kept (moment ∷ before) ≡ false → has_kept (and_turns failed seats (moment ∷ before)) ≡ true
          → IsRun panels (and_turns failed seats (moment ∷ before))
          → failed_ticks (and_turns failed seats (moment ∷ before)) ≡ failed_ticks (Kept failed ∷ moment ∷ before))
          → failed_ticks (and_turns failed seats (turn_of failed seat.panel task ∷ before)) ≡ failed_ticks (Kept failed ∷ before)
      by Keep had run ih = kept_once seats (Kept failed ∷ before) refl run
      by task had run ih = ih (Turned seat.panel task) owed had run

events_fail : (events : List Event) (before : List Moment) → failed_ticks (and_events events before) ≡ failed_ticks before
events_fail [] before = refl
events_fail (event ∷ events) before = events_fail events (Happened event ∷ before)

pub are_counted : FailuresAreCounted
are_counted panels [] ordered = refl
are_counted panels (tick ∷ ticks) ordered =
    let before = records_are_runs panels ticks ordered.0 in
    let run = records_are_runs panels (tick ∷ ticks) ordered in
    let start = and_events tick.events (Began ∷ moments ticks) in
    let fresh = fresh_events panels tick.events (Began ∷ moments ticks) (fresh_tick panels (moments ticks) before.0 before.1) in
    ap length (as_kept panels tick.failed tick.order start fresh.unkept run.1.keep run.0) ∙ by tick.failed (ap length (events_fail tick.events (Began ∷ moments ticks))
    ∙ are_counted panels ticks ordered.0)
  where
    by : (failed : Bool) → length (failed_ticks (and_events tick.events (Began ∷ moments ticks))) ≡ failures ticks
        → length (failed_ticks (Kept failed ∷ and_events tick.events (Began ∷ moments ticks))) ≡ (if failed then failures ticks + 1 else failures ticks)
    by true e = omega (arith, e)
    by false e = e

-- ---- as a record tells the ticks

recorded_ordered : (panels : ℕ) (ticks : List TickBlock) → AreOrdered panels (as_recorded ticks) ↔ AreOrdered panels ticks
recorded_ordered panels [] = (λ h. h, λ h. h)
recorded_ordered panels (tick ∷ ticks) =
    let ih = recorded_ordered panels ticks in (λ h. (ih.0 h.0, h.1), λ h. (ih.1 h.0, h.1))

recorded_none : (ticks : List TickBlock) → failures (as_recorded ticks) ≡ 0
recorded_none [] = refl
recorded_none (tick ∷ ticks) = recorded_none ticks

pub are_the_same : RecordedAreTheSame
are_the_same panels ticks = (length-map ticks without_failure, recorded_ordered panels ticks, recorded_none ticks)

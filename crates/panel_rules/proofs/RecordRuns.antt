-- A record whose ticks are ordered is a run.
use Rattle.std.proofs.Common.{◌≡◌, ℕ, zero, suc, ◌<◌, ◌||◌, List, [], ◌∷◌, ◌++◌, length, get_or, append_assoc, length-append, ◌⊎◌, inl, inr, Bool, true, false, refl, sym, ◌∙◌, ap, subst, arith}
use Rattle.std.specs.List.{list_any, Contains}
use Rattle.std.proofs.lemmas.Bool.{eqb-true}
use Rattle.std.proofs.lemmas.List.{get_or_append_left}
use Rattle.std.proofs.lemmas.Option.{slice_get_within, get_or_from_slice_get}
use Rattle.tick_units.specs.declared.seat.Seat.{Seat}
use Rattle.tick_units.specs.declared.task.Task.{Task}
use Rattle.tick_units.specs.declared.task.Task.TheVariants.{Keep}
use Rattle.tick_units.specs.Orders.{task_number, is_among, seat_of, keep_seat, canonical_seats, IsSound, IsOrder}
use Rattle.tick_units.proofs.Canonical.{IsPanelSeat, Contains-canonical_seats-cases}
use Rattle.tick_units.proofs.OrderLaws.{panel_in_order, keep_in_order}
use Rattle.tick_units.proofs.Seats.{is_among-Decides}
use Rattle.tick_units.proofs.Sound.{known_behind, absent_before, sound_from_order}
use Rattle.site_types.specs.declared.event.Event.{Event}
use Rattle.panel_rules.specs.Moments.{Moment, Began, Happened, moments, and_events, and_turns, turn_of, has_turned, has_kept, is_fresh, HaveAllTurned, IsRun}
use Rattle.panel_rules.specs.Records.{RecordsAreRuns}
use Rattle.panel_rules.proofs.Bools.{at_any, either_left, either_right}
use Rattle.panel_rules.proofs.Turns.{same_task}
use Rattle.panel_rules.proofs.Orders.{not_keep, false_by, turned_among, is_keep, keep_is, keep_itself, kept_among}

pub turns-append : (failed : Bool) (xs ys : List Seat) (before : List Moment)
    → and_turns failed (xs ++ ys) before ≡ and_turns failed ys (and_turns failed xs before)
turns-append failed [] ys before = refl
turns-append failed (x ∷ xs) ys before = turns-append failed xs ys (turn_of failed x.panel x.task ∷ before)

-- a tick has begun, and no seat has turned in it
pub record Fresh (panels : ℕ) (before : List Moment) : Type 0 where
  pub run : IsRun panels before
  pub fresh : is_fresh before ≡ true
  pub unturned : (panel : ℕ) (task : Task) → has_turned panel task before ≡ false
  pub unkept : has_kept before ≡ false

pub fresh_tick : (panels : ℕ) (before : List Moment) → IsRun panels before → HaveAllTurned panels before → Fresh panels (Began ∷ before)
fresh_tick panels before run all = record { run = (run, all); fresh = refl; unturned = λ panel task. refl; unkept = refl }

pub fresh_events : (panels : ℕ) (events : List Event) (before : List Moment) → Fresh panels before → Fresh panels (and_events events before)
fresh_events panels [] before h = h
fresh_events panels (event ∷ events) before h =
    fresh_events panels events (Happened event ∷ before) (record {
      run = (h.run, h.fresh);
      fresh = h.fresh;
      unturned = h.unturned;
      unkept =
          h.unkept;
    })

module _ (panels : ℕ) (failed : Bool) (start : List Moment) (fresh : Fresh panels start) where
  -- Keep has not turned while its seat is yet to come
  unkept_yet : (earlier : List Seat) (seat : Seat) (later : List Seat) → IsSound panels (earlier ++ seat ∷ later) → seat.task ≡ Keep
      → list_any is_keep earlier ≡ true → ⊥
  unkept_yet earlier seat later sound keeps h =
      let g = at_any is_keep earlier h in
      let within = slice_get_within earlier g.place g.item g.is in
      let known_item =
      subst (Contains (canonical_seats panels)) (get_or_append_left earlier (seat ∷ later) seat g.place within ∙ get_or_from_slice_get earlier
      g.place g.item seat g.is) (sound.known g.place seat (omega (arith, within, length-append earlier (seat ∷ later)))) in
      let item_keeps = same_task g.item.task Keep (eqb-true (task_number g.item.task) 8 (keep_is g.item g.passes)) in
      absent_before panels earlier seat later sound (
        g.place,
        within,
        get_or_from_slice_get earlier g.place g.item seat g.is ∙ only g.item known_item
            item_keeps ∙ sym (only seat (known_behind panels earlier seat later sound) keeps),
      )
    where
      only_by : (s : Seat) → IsPanelSeat panels s ⊎ (s ≡ keep_seat) → s.task ≡ Keep → s ≡ keep_seat
      only_by s (inl h) e = absurd (h.other e)
      only_by s (inr h) e = h

      only : (s : Seat) → Contains (canonical_seats panels) s → s.task ≡ Keep → s ≡ keep_seat
      only s known e = only_by s ((Contains-canonical_seats-cases panels s).0 known) e

  -- a seat that is yet to come may turn
  may_turn : (earlier : List Seat) (seat : Seat) (later : List Seat) → IsSound panels (earlier ++ seat ∷ later)
      → IsRun panels (and_turns failed earlier start) → (task : Task) → seat.task ≡ task
      → IsRun panels (turn_of failed seat.panel task ∷ and_turns failed earlier start)
  may_turn earlier seat later sound run Keep e =
      (run, kept_among failed earlier start ∙ ap (λ b. b || has_kept start) (false_by (list_any is_keep earlier) (unkept_yet earlier seat later sound e)) ∙ fresh.unkept)
  may_turn earlier seat later sound run task e = (
    run,
    turned_among failed seat.panel task earlier start tt
        ∙ ap (λ b. b || has_turned seat.panel task start)
        (false_by (is_among (seat_of seat.panel task) earlier)
        (λ h.
        absent_before panels earlier seat later sound
        (subst (Contains earlier) (ap (seat_of seat.panel) (sym e)) ((is_among-Decides (seat_of seat.panel task) earlier).0 h))))
        ∙ fresh.unturned seat.panel task,
  )

  turns_run : (earlier later : List Seat) → IsSound panels (earlier ++ later) → IsRun panels (and_turns failed earlier start)
      → IsRun panels (and_turns failed later (and_turns failed earlier start))
  turns_run earlier [] sound run = run
  turns_run earlier (seat ∷ later) sound run =
      let next = may_turn earlier seat later sound run seat.task refl in
      let one : and_turns failed (earlier ++ seat ∷ []) start ≡ turn_of failed seat.panel seat.task ∷ and_turns failed earlier start =
      turns-append failed earlier (seat ∷ []) start in
      subst (λ b. IsRun panels (and_turns failed later b)) one
      (turns_run (earlier ++ seat ∷ []) later (subst (IsSound panels) (sym (append_assoc earlier (seat ∷ []) later)) sound)
      (subst (IsRun panels) (sym one) next))

  pub order_run : (order : List Seat) → IsOrder panels order → IsRun panels (and_turns failed order start)
  order_run order is = turns_run [] order (sound_from_order panels order is) fresh.run

  pub all_turned : (order : List Seat) → IsOrder panels order → HaveAllTurned panels (and_turns failed order start)
  all_turned order is =
      record {
        each =
            λ panel task p t.
            (turned_among failed panel task order start t ∙ either_left (is_among (seat_of panel task) order) (has_turned panel task start)
            ((is_among-Decides (seat_of panel task) order).1 (panel_in_order panels order panel task is (not_keep task t) p.0 p.1)));
        keep = kept_among failed order start ∙ either_left (list_any is_keep order) (has_kept start) (keep_there (keep_in_order panels order is));
      }
    where
      keep_there : Contains order keep_seat → list_any is_keep order ≡ true
      keep_there h = found order h.0 h.1 h.2
        where
          found : (xs : List Seat) (k : ℕ) → k < length xs → get_or xs k keep_seat ≡ keep_seat → list_any is_keep xs ≡ true
          found [] k l e = absurd (omega arith)
          found (x ∷ xs) zero l e = either_left (is_keep x) (list_any is_keep xs) (ap is_keep e ∙ keep_itself)
          found (x ∷ xs) (suc k) l e = either_right (is_keep x) (list_any is_keep xs) (found xs k (omega arith) e)

-- a record of ordered ticks
pub records_are_runs : RecordsAreRuns
records_are_runs panels [] ordered = (tt, record { each = λ panel task p t. refl; keep = refl })
records_are_runs panels (tick ∷ ticks) ordered =
    let ih = records_are_runs panels ticks ordered.0 in
    let fresh = fresh_events panels tick.events (Began ∷ moments ticks) (fresh_tick panels (moments ticks) ih.0 ih.1) in (
      order_run panels tick.failed (and_events tick.events (Began ∷ moments ticks)) fresh tick.order ordered.1,
      all_turned panels tick.failed (and_events tick.events (Began ∷ moments ticks)) fresh tick.order ordered.1,
    )

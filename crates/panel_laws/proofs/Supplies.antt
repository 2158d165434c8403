-- A supply that was bad for long enough is shown.
use Rattle.std.proofs.Common.{◌≡◌, ℕ, zero, suc, ◌+◌, ◌-◌, ◌≤◌, ◌<◌, ◌==◌, ◌&&◌, List, [], ◌∷◌, inl, inr, Bool, true, false, if◌then◌else◌, refl, sym, ◌∙◌, ap, subst, arith}
use Rattle.std.specs.Prelude.{nat_le}
use Rattle.std.proofs.lemmas.Bool.Decides.{eqb_tells, leb_tells}
use Rattle.tick_units.specs.declared.task.Task.TheVariants.{Supply as SupplyTask}
use Rattle.site_types.specs.declared.event.Event.{Event}
use Rattle.site_types.specs.declared.event.Event.TheVariants.{Op, Point, Cable, Supply, Link, Confirmed}
use Rattle.site_types.specs.declared.site.Site.{Site}
use Rattle.site_types.specs.declared.supply_kind.SupplyKind.{SupplyKind}
use Rattle.site_types.specs.declared.supply_kind.SupplyKind.TheVariants.{Mains, Standby, Voltage, Charger}
use Rattle.site_types.specs.Profile.{fault_of}
use Rattle.site_types.proofs.Masks.{has_bit-mask}
use Rattle.supply_monitor.specs.Supply.{Call, Reported, Turned as TurnMade, place_of, is_same_kind, is_bad as was_bad, bad_turns, lasts, wait_of, is_shown, kind_at}
use Rattle.panel_rules.specs.Moments.{Moment, Began, Happened, Turned, Kept, tick_of, has_turned, IsPanel, IsRun, IsPast, up_to, latest_turn, before_turn}
use Rattle.panel_rules.specs.States.{is_bad, supply_number}
use Rattle.panel_rules.specs.Kept.{made_at}
use Rattle.panel_rules.specs.Faults.{and_supply, supply_calls}
use Rattle.panel_laws.specs.OtherDeadlines.{BadSupplyIsShown}
use Rattle.panel_rules.proofs.Floors.{le_to}
use Rattle.panel_rules.proofs.Turns.{turn_lag, run_tail, before_tick, before_past, past_on, owed_turn, tick_rises}
use Rattle.panel_rules.proofs.Stays.{ByEvents, state_stays, up_to_here}
use Rattle.panel_rules.proofs.OpenRequests.{eq_swap}
use Rattle.panel_rules.proofs.KeptWords.{made_is, latest_by}
use Rattle.panel_laws.proofs.DriveTurns.{turn_past, owed_before, up_to_past, ended_at}
use Rattle.panel_laws.proofs.DueOn.{Among, any_among, LiesBefore, first, further, one_before, up_to_is_past}
use Rattle.panel_laws.proofs.OwnTick.{made_now}

-- ---- the monitor's reports are the events

number_is : (kind : SupplyKind) → place_of kind ≡ supply_number kind
number_is Mains = refl
number_is Standby = refl
number_is Voltage = refl
number_is Charger = refl

same_kind : (kind other : SupplyKind) → is_same_kind kind other ≡ (supply_number other == supply_number kind)
same_kind kind other =
    ap (λ n. n == place_of other) (number_is kind) ∙ ap (λ n. supply_number kind == n) (number_is other) ∙ eq_swap (supply_number kind)
    (supply_number other)

bad_same : (panel : ℕ) (kind : SupplyKind) (m : List Moment) → was_bad kind (supply_calls panel m) ≡ is_bad panel kind m
bad_same panel kind [] = refl
bad_same panel kind (Began ∷ before) = bad_same panel kind before
bad_same panel kind (Happened (Supply other which bad) ∷ before) = go (other == panel) (bad_same panel kind before)
  where
    go : (b : Bool) → was_bad kind (supply_calls panel before) ≡ is_bad panel kind before
        → was_bad kind (if b then Reported which bad ∷ supply_calls panel before else supply_calls panel before)
        ≡ (if b && (supply_number which == supply_number kind) then bad else is_bad panel kind before)
    go true ih =
        ap (λ t. if t then bad else was_bad kind (supply_calls panel before)) (same_kind kind which) ∙ ap
        (λ w. if supply_number which == supply_number kind then bad else w) ih
    go false ih = ih
bad_same panel kind (Happened (Op who code operation) ∷ before) = bad_same panel kind before
bad_same panel kind (Happened (Point point state) ∷ before) = bad_same panel kind before
bad_same panel kind (Happened (Cable who line piece state) ∷ before) = bad_same panel kind before
bad_same panel kind (Happened (Link link up) ∷ before) = bad_same panel kind before
bad_same panel kind (Happened (Confirmed output) ∷ before) = bad_same panel kind before
bad_same panel kind (Turned other SupplyTask ∷ before) =
    elim (other == panel) as (λ b. was_bad kind (if b then TurnMade (tick_of before) ∷ supply_calls panel before else supply_calls panel before)
    ≡ is_bad panel kind before) [ true ↦ bad_same panel kind before | false ↦ bad_same panel kind before ]
bad_same panel kind (Turned other task ∷ before) = bad_same panel kind before
bad_same panel kind (Kept failed ∷ before) = bad_same panel kind before

-- a report makes no turn
no_turn : (panel : ℕ) (kind : SupplyKind) (event : Event) (calls : List Call) → bad_turns kind (and_supply panel event calls) ≡ bad_turns kind calls
no_turn panel kind (Supply other which bad) calls =
    elim (other == panel) as (λ b. bad_turns kind (if b then Reported which bad ∷ calls else calls) ≡ bad_turns kind calls) [
      | true ↦ refl
      | false ↦
          refl
    ]
no_turn panel kind (Op who code operation) calls = refl
no_turn panel kind (Point point state) calls = refl
no_turn panel kind (Cable who line piece state) calls = refl
no_turn panel kind (Link link up) calls = refl
no_turn panel kind (Confirmed output) calls = refl

le_no : (a b : ℕ) → b < a → nat_le a b ≡ false
le_no a b l = elim (leb_tells a b) [ inl h ↦ (let k = h.1 in absurd (omega (arith, k, l))) | inr h ↦ h.0 ]

module _ (panel : ℕ) (kind : SupplyKind) where
  -- before the turn of a tick the run is that of the tick before
  bad_now : (panels t : ℕ) (d : List Moment) → IsRun panels d → has_turned panel SupplyTask d ≡ false → tick_of d ≡ t + 1
      → bad_turns kind (supply_calls panel d) ≡ bad_turns kind (supply_calls panel (up_to t d))
  bad_now panels t [] run owed e = absurd (omega (arith, e))
  bad_now panels t (Began ∷ before) run owed e =
      let same : tick_of before ≡ t = omega (arith, e) in
      rw (le_no (tick_of before + 1) t (omega (arith, same)))
      (sym (ap (λ h. bad_turns kind (supply_calls panel h)) (ap (λ x. up_to x before) (sym same) ∙ up_to_here before)))
  bad_now panels t (Happened event ∷ before) run owed e =
      rw (le_no (tick_of before) t (omega (arith, e))) (no_turn panel kind event (supply_calls panel before) ∙ bad_now panels t before run.0 owed e)
  bad_now panels t (Turned who SupplyTask ∷ before) run owed e =
      elim (eqb_tells who panel) [
        | inl h ↦ absurd (let o = rw h.0 at owed in cc)
        | inr h ↦ (let o = rw h.0 at owed in rw (h.0, le_no (tick_of before) t (omega (arith, e))) (bad_now panels t before run.0 o e))
      ]
  bad_now panels t (Turned who task ∷ before) run owed e = rw (le_no (tick_of before) t (omega (arith, e))) (bad_now panels t before run.0 owed e)
  bad_now panels t (Kept failed ∷ before) run owed e = rw (le_no (tick_of before) t (omega (arith, e))) (bad_now panels t before run.0 owed e)

  -- the run after the latest turn
  bad_latest : (m : List Moment) → 1 ≤ latest_turn panel SupplyTask m
      → bad_turns kind (supply_calls panel m)
      ≡ (if was_bad kind (supply_calls panel (before_turn panel SupplyTask m)) then latest_turn panel SupplyTask m
      ∷ bad_turns kind (supply_calls panel (before_turn panel SupplyTask m)) else [])
  bad_latest [] l = absurd (omega (arith, l))
  bad_latest (Began ∷ before) l = bad_latest before l
  bad_latest (Happened event ∷ before) l = no_turn panel kind event (supply_calls panel before) ∙ bad_latest before l
  bad_latest (Turned who SupplyTask ∷ before) l =
      elim (eqb_tells who panel) [
        | inl h ↦ rw h.0 refl
        | inr h ↦ (let k = rw h.0 at l in rw h.0 (bad_latest before k))
      ]
  bad_latest (Turned who task ∷ before) l = bad_latest before l
  bad_latest (Kept failed ∷ before) l = bad_latest before l

bad_by_events : (panel : ℕ) (kind : SupplyKind) → ByEvents (λ before. is_bad panel kind before)
bad_by_events panel kind = record { began = λ before. refl; turned = λ who task before. refl; kept = λ failed before. refl }

module _ (site : Site) (panel : ℕ) (kind : SupplyKind) (p : IsPanel site.panels panel) (whole : List Moment) (run : IsRun site.panels whole) where
  -- at a turn of Supply the supply is as it is in that tick
  bad_then : (x : List Moment) → IsPast x whole → 1 ≤ latest_turn panel SupplyTask x
      → was_bad kind (supply_calls panel (before_turn panel SupplyTask x)) ≡ is_bad panel kind (up_to (latest_turn panel SupplyTask x) whole)
  bad_then x past l =
      let turn = turn_past panel SupplyTask x l in
      bad_same panel kind (before_turn panel SupplyTask x)
      ∙ sym (state_stays (λ b. is_bad panel kind b) site.panels (Turned panel SupplyTask ∷ before_turn panel SupplyTask x) whole
      (bad_by_events panel kind) (past_on (Turned panel SupplyTask ∷ before_turn panel SupplyTask x) x whole turn past) run refl)
      ∙ ap (λ t. is_bad panel kind (up_to t whole)) (before_tick panel SupplyTask x)

  -- the run after a turn at which it was bad
  bad_head : (x : List Moment) → IsPast x whole → 1 ≤ latest_turn panel SupplyTask x
      → is_bad panel kind (up_to (latest_turn panel SupplyTask x) whole) ≡ true
      → bad_turns kind (supply_calls panel x) ≡ latest_turn panel SupplyTask x ∷ bad_turns kind (supply_calls panel (before_turn panel SupplyTask x))
  bad_head x past l bad =
      bad_latest panel kind x l ∙ ap (λ b. if b then latest_turn panel SupplyTask x
      ∷ bad_turns kind (supply_calls panel (before_turn panel SupplyTask x)) else []) (bad_then x past l ∙ bad)

  bad_back : (x : List Moment) (t : ℕ) → IsPast x whole → latest_turn panel SupplyTask x ≡ t + 1
      → bad_turns kind (supply_calls panel (before_turn panel SupplyTask x)) ≡ bad_turns kind (supply_calls panel (up_to t whole))
  bad_back x t past e =
      let run' = run_tail site.panels x whole past run in
      let back = before_past panel SupplyTask x in
      let tick = before_tick panel SupplyTask x in
      bad_now panel kind site.panels t (before_turn panel SupplyTask x) (run_tail site.panels (before_turn panel SupplyTask x) x back run')
      (owed_before site.panels panel SupplyTask x run' (omega (arith, e))) (tick ∙ e)
      ∙ ap (λ h. bad_turns kind (supply_calls panel h))
      (sym (up_to_past t (before_turn panel SupplyTask x) whole (past_on (before_turn panel SupplyTask x) x whole back past)
      (omega (arith, tick, e))))

  -- the run goes back over each tick at which it was bad, from the latest turn in some past on
  bad_covers : (n : ℕ) (x : List Moment) → IsPast x whole → n < latest_turn panel SupplyTask x
      → ((t : ℕ) → latest_turn panel SupplyTask x ≤ t + n → t ≤ latest_turn panel SupplyTask x → is_bad panel kind (up_to t whole) ≡ true)
      → LiesBefore n (latest_turn panel SupplyTask x) (bad_turns kind (supply_calls panel x))
  bad_covers zero x past l bad =
      let head = bad_head x past (omega (arith, l)) (bad (latest_turn panel SupplyTask x) (omega arith) (omega arith)) in
      record {
        tick = latest_turn panel SupplyTask x;
        among =
            subst (Among (latest_turn panel SupplyTask x)) (sym head) (first (bad_turns kind (supply_calls panel (before_turn panel SupplyTask x))));
        far = omega arith;
      }
  bad_covers (suc n) x past l bad =
      let b = one_before (latest_turn panel SupplyTask x) (omega (arith, l)) in
      let e = b.1 in
      let head = bad_head x past (omega (arith, l)) (bad (latest_turn panel SupplyTask x) (omega arith) (omega arith)) in
      let back = bad_back x b.0 past e in
      let less = latest_less x past in
      let ended = ended_at site.panels b.0 whole run (omega (arith, less, e)) in
      let k = ended.tick in
      let lag = rw (ended.ended.each panel SupplyTask p tt) at (turn_lag site.panels panel SupplyTask (up_to b.0 whole) p tt ended.run) in
      let earlier =
      bad_covers n (up_to b.0 whole) (up_to_is_past b.0 whole) (omega (arith, k, lag, l, e))
      (λ t c d. bad t (omega (arith, k, lag, c, e)) (omega (arith, k, lag, d, e))) in
      let far = earlier.far in
      record {
        tick = earlier.tick;
        among =
            subst (Among earlier.tick) (sym head)
            (further (latest_turn panel SupplyTask x) (bad_turns kind (supply_calls panel (before_turn panel SupplyTask x)))
            (subst (Among earlier.tick) (sym back) earlier.among));
        far = omega (arith, far, k, lag, e);
      }
    where
      latest_less : (x : List Moment) → IsPast x whole → latest_turn panel SupplyTask x ≤ tick_of whole
      latest_less x past = let a = latest_by panel SupplyTask x in let r = tick_rises x whole past in omega (arith, a, r)

kind_is : (kind : SupplyKind) → kind_at (supply_number kind) ≡ kind
kind_is Mains = refl
kind_is Standby = refl
kind_is Voltage = refl
kind_is Charger = refl

number_few : (kind : SupplyKind) → supply_number kind < 4
number_few Mains = omega arith
number_few Standby = omega arith
number_few Voltage = omega arith
number_few Charger = omega arith

-- a list whose head comes a wait after one of its ticks lasts
lasts_by : (wait v : ℕ) (turns : List ℕ) (rest : List ℕ) → turns ≡ v ∷ rest → LiesBefore wait v turns → lasts wait turns ≡ true
lasts_by wait v turns rest e lies =
    let far = lies.far in
    ap (lasts wait) e
    ∙ any_among (λ tick. nat_le wait (v - tick)) lies.tick (v ∷ rest) (subst (Among lies.tick) e lies.among)
    (le_to wait (v - lies.tick) (omega (arith, far)))

pub bad_supply_shown : BadSupplyIsShown
bad_supply_shown site kept done stored m panel kind start after p bad =
    has_bit-mask 4 (λ k. is_shown site.waits (kind_at k) (supply_calls panel (made_at panel m))) (supply_number kind) (number_few kind)
    ∙ ap (λ k. is_shown site.waits k (supply_calls panel (made_at panel m))) (kind_is kind)
    ∙ lasts_by (wait_of kind site.waits) (latest_turn panel SupplyTask (made_at panel m)) (bad_turns kind (supply_calls panel (made_at panel m)))
    (bad_turns kind (supply_calls panel (before_turn panel SupplyTask (made_at panel m))))
    (bad_head site panel kind p m after.run (made_at panel m) (made_is panel m).past (omega (arith, near.0, near.1, long, f, begins))
    (bad.bad (latest_turn panel SupplyTask (made_at panel m)) (omega (arith, near.0, near.1, long, f)) (omega (arith, near.1))))
    (bad_covers site panel kind p m after.run (wait_of kind site.waits) (made_at panel m) (made_is panel m).past
    (omega (arith, near.0, near.1, long, f, begins)) (λ t c d. bad.bad t (omega (arith, near.0, near.1, long, f, c)) (omega (arith, near.1, d))))
  where
    long : start + wait_of kind site.waits + fault_of site.format ≤ tick_of m + 1
    long = bad.long

    begins : 1 ≤ start
    begins = bad.begins

    f : 1 ≤ site.format
    f = after.valid.forms.format.0

    near : (tick_of m ≤ latest_turn panel SupplyTask (made_at panel m) + 1) × (latest_turn panel SupplyTask (made_at panel m) ≤ tick_of m)
    near =
        owed (has_turned panel SupplyTask (made_at panel m))
        (turn_lag site.panels panel SupplyTask (made_at panel m) p tt (run_tail site.panels (made_at panel m) m (made_is panel m).past after.run))
      where
        owed : (b : Bool) → latest_turn panel SupplyTask (made_at panel m) + owed_turn b ≡ tick_of (made_at panel m)
            → (tick_of m ≤ latest_turn panel SupplyTask (made_at panel m) + 1) × (latest_turn panel SupplyTask (made_at panel m) ≤ tick_of m)
        owed true e = let t = made_now site m after panel p in (omega (arith, e, t), omega (arith, e, t))
        owed false e = let t = made_now site m after panel p in (omega (arith, e, t), omega (arith, e, t))

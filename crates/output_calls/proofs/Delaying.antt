-- What the delays of a panel are told lets through what the rules let act.
use Rattle.std.proofs.Common.{◌≡◌, ◌≤◌, ◌+◌, ◌-◌, ◌==◌, ◌&&◌, ◌||◌, not, ℕ, Bool, true, false, List}
use Rattle.std.proofs.Common.{[], ◌∷◌, slice_get, Option, Some, if◌then◌else◌, refl, sym, ◌∙◌, ap, subst}
use Rattle.std.proofs.Common.{arith}
use Rattle.std.specs.Prelude.{nat_le}
use Rattle.std.specs.List.{list_any}
use Rattle.tick_units.specs.Earliest.{earliest, IsFalling}
use Rattle.tick_units.specs.declared.task.Task.TheVariants.{Poll, Decide, Supply, Desk, Hold, Link, Effect, Drive}
use Rattle.tick_units.specs.declared.task.Task.TheVariants.{Keep}
use Rattle.site_types.specs.declared.output.Output.{Output}
use Rattle.site_types.specs.declared.retained.Retained.{Retained}
use Rattle.site_types.specs.declared.site.Site.{Site}
use Rattle.site_types.specs.Bits.{has_bit}
use Rattle.site_types.specs.Done.{Done, DelaysOff, in_force, is_on, is_override}
use Rattle.site_types.specs.Done.{override_done_in, value_set}
use Rattle.site_types.specs.Valid.{IsValid}
use Rattle.site_types.proofs.Done.{in_force-yet}
use Rattle.output_delays.specs.Runs.{Turned as DelayTurn, are_active, began, delay_in}
use Rattle.output_delays.specs.Runs.{delay_of as delay_by_number, is_asked, is_by_hand, overrides_of, request_ticks}
use Rattle.output_delays.specs.Overrides.{is_any_in}
use Rattle.panel_rules.specs.Moments.{Moment, Began, Happened, Turned, Kept, tick_of}
use Rattle.panel_rules.specs.Markers.{Facts}
use Rattle.panel_rules.specs.Outputs.{panel_of_plan, panel_of_output, delay_of_plan, is_requested}
use Rattle.panel_rules.specs.Outputs.{is_requested_by_hand, asked_run, is_over}
use Rattle.panel_rules.proofs.AnswersTell.{eq_true}
use Rattle.panel_rules.proofs.Bools.{either_left, either_right}
use Rattle.panel_rules.proofs.Floors.{le_from, le_to}
use Rattle.panel_laws.proofs.FacesShow.{output_bit}
use Rattle.output_calls.specs.DelayCalls.{and_delaying, requests_at, delay_calls, ThroughByCalls}
use Rattle.output_calls.specs.DoneCalls.{IsLatestFirst}
use Rattle.output_calls.proofs.DoneNow.{one_tick_more}
use Rattle.output_calls.proofs.Falling.{any_earliest, earliest_by, passed}
use Rattle.output_calls.proofs.Numbers.{numbered_is}
use Rattle.output_calls.proofs.RunTicks.{run_made, run_by, run_falls}
use Rattle.output_calls.proofs.DelaysDone.{none_at_start, overridden, override_earlier, override_goes, requests_stay, setting_goes, switched}

where_asked : (a x y : Bool) → (a ≡ true → x ≡ y) → (a && x) ≡ (a && y)
where_asked true x y to = to refl
where_asked false x y to = refl

in_order : (h n z t : Bool) → (h || (n || (z || t))) ≡ ((h || z) || (n || t))
in_order true n z t = refl
in_order false true true t = refl
in_order false true false t = refl
in_order false false z t = refl

not_not : (a f : Bool) → a ≡ not f → not a ≡ f
not_not a true h = ap not h
not_not a false h = ap not h

module _ (site : Site) (facts : ℕ → List Moment → Facts) (kept : Retained) (done : List Done) (falls : IsLatestFirst done) (panel : ℕ) where
  -- whether they are on at first
  abbrev kept_on : Bool
  kept_on = not (has_bit kept.delays_off (panel - 1))

  -- the delays are on but where they are off by the rules
  active_is : (m : List Moment) → are_active kept_on (delay_calls site facts done panel m) ≡ not (in_force site kept (DelaysOff panel) (tick_of m) done)
  active_is [] = first_is done
    where
      first_is : (ds : List Done) → kept_on ≡ not (in_force site kept (DelaysOff panel) 0 ds)
      first_is [] = refl
      first_is (d ∷ ds) = first_is ds ∙ sym (ap not (in_force-yet site kept (DelaysOff panel) 0 d ds (omega arith)))
  active_is (Began ∷ before) =
      one_tick_more (and_delaying (tick_of before)) panel (tick_of before) (in_force site kept (DelaysOff panel))
      (λ d v. if is_on (DelaysOff panel) d then value_set d.operation else v) (setting_goes site kept (DelaysOff panel))
      (λ calls v. are_active kept_on calls ≡ not v) (λ d calls v is h. switched panel (tick_of before) kept_on v d calls h) done
      (delay_calls site facts done panel before) falls (active_is before)
  active_is (Happened event ∷ before) = active_is before
  active_is (Turned other Drive ∷ before) = go (other == panel) (active_is before)
    where
      go : (b : Bool) → are_active kept_on (delay_calls site facts done panel before) ≡ not (in_force site kept (DelaysOff panel) (tick_of before) done)
          → are_active kept_on
          (if b then DelayTurn (tick_of before) (requests_at site facts panel before) ∷ delay_calls site facts done panel before
          else delay_calls site facts done panel before) ≡ not (in_force site kept (DelaysOff panel) (tick_of before) done)
      go true h = h
      go false h = h
  active_is (Turned other Poll ∷ before) = active_is before
  active_is (Turned other Decide ∷ before) = active_is before
  active_is (Turned other Supply ∷ before) = active_is before
  active_is (Turned other Desk ∷ before) = active_is before
  active_is (Turned other Hold ∷ before) = active_is before
  active_is (Turned other Link ∷ before) = active_is before
  active_is (Turned other Effect ∷ before) = active_is before
  active_is (Turned other Keep ∷ before) = active_is before
  active_is (Kept failed ∷ before) = active_is before

  overrides_are : (first now : ℕ) (m : List Moment) → tick_of m ≤ now
      → is_any_in first now (overrides_of (delay_calls site facts done panel m)) ≡ override_done_in panel first (tick_of m) done
  overrides_are first now [] by = none_at_start panel first done
  overrides_are first now (Began ∷ before) by =
      one_tick_more (and_delaying (tick_of before)) panel (tick_of before) (override_done_in panel first)
      (λ d v. (d.panel == panel && is_override d.operation && nat_le first d.tick) || v) (override_goes panel first)
      (λ calls v. is_any_in first now (overrides_of calls) ≡ v)
      (λ d calls v is h. overridden panel first (tick_of before) now v d calls (omega (arith, by)) is h) done
      (delay_calls site facts done panel before) falls (overrides_are first now before (omega (arith, by)))
  overrides_are first now (Happened event ∷ before) by = overrides_are first now before by
  overrides_are first now (Turned other Drive ∷ before) by = go (other == panel) (overrides_are first now before by)
    where
      go : (b : Bool)
          → is_any_in first now (overrides_of (delay_calls site facts done panel before)) ≡ override_done_in panel first (tick_of before) done
          → is_any_in first now
          (overrides_of (if b then DelayTurn (tick_of before) (requests_at site facts panel before) ∷ delay_calls site facts done panel before
          else delay_calls site facts done panel before)) ≡ override_done_in panel first (tick_of before) done
      go true h = h
      go false h = h
  overrides_are first now (Turned other Poll ∷ before) by = overrides_are first now before by
  overrides_are first now (Turned other Decide ∷ before) by = overrides_are first now before by
  overrides_are first now (Turned other Supply ∷ before) by = overrides_are first now before by
  overrides_are first now (Turned other Desk ∷ before) by = overrides_are first now before by
  overrides_are first now (Turned other Hold ∷ before) by = overrides_are first now before by
  overrides_are first now (Turned other Link ∷ before) by = overrides_are first now before by
  overrides_are first now (Turned other Effect ∷ before) by = overrides_are first now before by
  overrides_are first now (Turned other Keep ∷ before) by = overrides_are first now before by
  overrides_are first now (Kept failed ∷ before) by = overrides_are first now before by

module _ (site : Site) (facts : ℕ → List Moment → Facts) (done : List Done) (output : ℕ) (plan : Output) (valid : IsValid site)
    (is : slice_get site.outputs output ≡ Some plan) where
  panel_is : panel_of_output site output ≡ plan.panel
  panel_is = ap panel_of_plan is

  in_requests : (before : List Moment) → is_asked plan.number (requests_at site facts plan.panel before) ≡ is_requested site facts output before
  in_requests before = output_bit site valid output plan is (λ o. is_requested site facts o before)

  in_manual : (before : List Moment)
      → is_by_hand plan.number (requests_at site facts plan.panel before) ≡ is_requested_by_hand site facts output before
  in_manual before = output_bit site valid output plan is (λ o. is_requested_by_hand site facts o before)

  -- the run of turns at which the output was asked for
  asked_is : (m : List Moment) → asked_run site facts output m ≡ run_made (is_requested site facts output) (panel_of_output site output) m
  asked_is [] = refl
  asked_is (Began ∷ before) = asked_is before
  asked_is (Happened event ∷ before) = asked_is before
  asked_is (Turned other Drive ∷ before) =
      ap (λ (run : List ℕ). if other == panel_of_output site output
      then (if is_requested site facts output before then tick_of before ∷ run else []) else run) (asked_is before)
  asked_is (Turned other Poll ∷ before) = asked_is before
  asked_is (Turned other Decide ∷ before) = asked_is before
  asked_is (Turned other Supply ∷ before) = asked_is before
  asked_is (Turned other Desk ∷ before) = asked_is before
  asked_is (Turned other Hold ∷ before) = asked_is before
  asked_is (Turned other Link ∷ before) = asked_is before
  asked_is (Turned other Effect ∷ before) = asked_is before
  asked_is (Turned other Keep ∷ before) = asked_is before
  asked_is (Kept failed ∷ before) = asked_is before

  asked_falls : (m : List Moment) → IsFalling (tick_of m ∷ asked_run site facts output m)
  asked_falls m =
      subst (λ (run : List ℕ). IsFalling (tick_of m ∷ run)) (sym (asked_is m)) (
        run_by (is_requested site facts output) (panel_of_output site output) m,
        run_falls (is_requested site facts output) (panel_of_output site output) m,
      )

  ticks_turned : (other : ℕ) (before : List Moment)
      → request_ticks plan.number (delay_calls site facts done plan.panel before) ≡ asked_run site facts output before
      → request_ticks plan.number (delay_calls site facts done plan.panel (Turned other Drive ∷ before))
      ≡ asked_run site facts output (Turned other Drive ∷ before)
  ticks_turned other before h =
      go (other == plan.panel)
      ∙ ap (λ p. if other == p then (if is_requested site facts output before then tick_of before ∷ asked_run site facts output before else [])
      else asked_run site facts output before) (sym panel_is)
    where
      go : (b : Bool)
          → request_ticks plan.number
          (if b then DelayTurn (tick_of before) (requests_at site facts plan.panel before) ∷ delay_calls site facts done plan.panel before
          else delay_calls site facts done plan.panel before)
          ≡ (if b then (if is_requested site facts output before then tick_of before ∷ asked_run site facts output before else [])
          else asked_run site facts output before)
      go true =
          ap (λ c. if c then tick_of before ∷ request_ticks plan.number (delay_calls site facts done plan.panel before) else []) (in_requests before)
          ∙ ap (λ (run : List ℕ). if is_requested site facts output before then tick_of before ∷ run else []) h
      go false = h

  ticks_are : (m : List Moment) → request_ticks plan.number (delay_calls site facts done plan.panel m) ≡ asked_run site facts output m
  ticks_are [] = refl
  ticks_are (Began ∷ before) =
      requests_stay plan.number plan.panel (tick_of before) done (delay_calls site facts done plan.panel before) ∙ ticks_are before
  ticks_are (Happened event ∷ before) = ticks_are before
  ticks_are (Turned other Drive ∷ before) = ticks_turned other before (ticks_are before)
  ticks_are (Turned other Poll ∷ before) = ticks_are before
  ticks_are (Turned other Decide ∷ before) = ticks_are before
  ticks_are (Turned other Supply ∷ before) = ticks_are before
  ticks_are (Turned other Desk ∷ before) = ticks_are before
  ticks_are (Turned other Hold ∷ before) = ticks_are before
  ticks_are (Turned other Link ∷ before) = ticks_are before
  ticks_are (Turned other Effect ∷ before) = ticks_are before
  ticks_are (Turned other Keep ∷ before) = ticks_are before
  ticks_are (Kept failed ∷ before) = ticks_are before

  -- the delay is over by the calls where it is by the rules
  over_same : (falls : IsLatestFirst done) (kept : Retained) (before : List Moment) → is_requested site facts output before ≡ true
      → (nat_le plan.delay (tick_of before - began plan.number (tick_of before) (delay_calls site facts done plan.panel before))
      || is_any_in (began plan.number (tick_of before) (delay_calls site facts done plan.panel before)) (tick_of before)
      (overrides_of (delay_calls site facts done plan.panel before)))
      ≡ is_over site facts kept done plan.panel plan.delay (tick_of before) (asked_run site facts output (Turned plan.panel Drive ∷ before))
  over_same falls kept before asked =
      let now = tick_of before in
      let run = asked_run site facts output before in
      let first = earliest now run in
      let calls = delay_calls site facts done plan.panel before in
      let test : ℕ → Bool = λ t. nat_le (t + plan.delay) now || override_done_in plan.panel t now done in
      ap (λ (ts : List ℕ). nat_le plan.delay (now - earliest now ts) || is_any_in (earliest now ts) now (overrides_of calls)) (ticks_are before)
      ∙ ap (λ b. nat_le plan.delay (now - first) || b) (overrides_are site facts kept done falls plan.panel first now before (omega arith))
      ∙ ap (λ b. b || override_done_in plan.panel first now done) (sym (passed plan.delay first now (earliest_by now run (asked_falls before))))
      ∙ sym (any_earliest test (λ a b less. by_earlier a b less (nat_le (b + plan.delay) now) refl) now run (asked_falls before))
      ∙ ap (list_any test) (sym run_is)
    where
      run_is : asked_run site facts output (Turned plan.panel Drive ∷ before) ≡ tick_of before ∷ asked_run site facts output before
      run_is =
          ap (λ b. if b then (if is_requested site facts output before then tick_of before ∷ asked_run site facts output before else [])
          else asked_run site facts output before) (eq_true plan.panel (panel_of_output site output) (sym panel_is))
          ∙ ap (λ b. if b then tick_of before ∷ asked_run site facts output before else []) asked

      by_earlier : (a b : ℕ) → a ≤ b → (c : Bool) → nat_le (b + plan.delay) (tick_of before) ≡ c
          → (nat_le (b + plan.delay) (tick_of before) || override_done_in plan.panel b (tick_of before) done) ≡ true
          → (nat_le (a + plan.delay) (tick_of before) || override_done_in plan.panel a (tick_of before) done) ≡ true
      by_earlier a b less true e h = let far = le_from (b + plan.delay) (tick_of before) e in
          either_left _ _ (le_to (a + plan.delay) (tick_of before) (omega (arith, less, far)))
      by_earlier a b less false e h =
          either_right _ _
          (override_earlier plan.panel (tick_of before) a b less done (sym (ap (λ c. c || override_done_in plan.panel b (tick_of before) done) e) ∙ h))

pub through : ThroughByCalls
through site facts kept done output plan before valid is falls =
    let now = tick_of before in
    let calls = delay_calls site facts done plan.panel before in
    let requests = requests_at site facts plan.panel before in
    let hand = is_requested_by_hand site facts output before in
    let off = in_force site kept (DelaysOff plan.panel) now done in
    let first = began plan.number now calls in
    let delay : delay_by_number site plan.panel plan.number ≡ plan.delay = ap delay_in (numbered_is site valid output plan is) in
    let meanwhile = is_any_in first now (overrides_of calls) in
    ap (λ b. b && (is_by_hand plan.number requests || (not (are_active (not (has_bit kept.delays_off (plan.panel - 1))) calls)
    || ((delay_by_number site plan.panel plan.number == 0) || (nat_le (delay_by_number site plan.panel plan.number) (now - first) || meanwhile)))))
    (in_requests site facts done output plan valid is before)
    ∙ where_asked (is_requested site facts output before) _ _
    (λ asked.
    ap (λ b. b || (not (are_active (not (has_bit kept.delays_off (plan.panel - 1))) calls)
    || ((delay_by_number site plan.panel plan.number == 0) || (nat_le (delay_by_number site plan.panel plan.number) (now - first) || meanwhile))))
    (in_manual site facts done output plan valid is before)
    ∙ ap (λ b. hand || (b || ((delay_by_number site plan.panel plan.number == 0) || (nat_le (delay_by_number site plan.panel plan.number) (now - first) || meanwhile))))
    (not_not _ off (active_is site facts kept done falls plan.panel before))
    ∙ ap (λ n. hand || (off || ((n == 0) || (nat_le n (now - first) || meanwhile)))) delay
    ∙ in_order hand off (plan.delay == 0) (nat_le plan.delay (now - first) || meanwhile)
    ∙ ap (λ b. (hand || (plan.delay == 0)) || (off || b)) (over_same site facts done output plan valid is falls kept before asked)
    ∙ ap (λ (o : Option Output). (hand || (delay_of_plan o == 0)) || (in_force site kept (DelaysOff (panel_of_plan o)) now done
    || is_over site facts kept done (panel_of_plan o) (delay_of_plan o) now (asked_run site facts output (Turned (panel_of_plan o) Drive ∷ before)))) (sym is))

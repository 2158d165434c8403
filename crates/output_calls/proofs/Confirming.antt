-- What the Routing of a panel is told makes of its outputs what the rules say.
use Rattle.std.proofs.Common.{◌≡◌, ◌≢◌, ◌≤◌, ◌<◌, ◌+◌, ◌==◌, ◌&&◌, ◌||◌, ◌⊎◌, not, ℕ, Bool, true, false, List, []}
use Rattle.std.proofs.Common.{◌∷◌, Option, Some, None, slice_get, if◌then◌else◌, inl, inr, refl, sym, ◌∙◌, ap, subst}
use Rattle.std.proofs.Common.{arith}
use Rattle.std.specs.Prelude.{nat_le, nat_lt}
use Rattle.std.specs.List.{AllByRecursion, list_any}
use Rattle.std.proofs.lemmas.Bool.Decides.{eqb_tells}
use Rattle.tick_units.specs.Earliest.{earliest, IsFalling}
use Rattle.tick_units.specs.declared.task.Task.TheVariants.{Poll, Decide, Supply, Desk, Hold, Link, Effect, Drive}
use Rattle.tick_units.specs.declared.task.Task.TheVariants.{Keep}
use Rattle.site_types.specs.declared.event.Event.TheVariants.{Op, Point, Cable, Supply as SupplyEvent}
use Rattle.site_types.specs.declared.event.Event.TheVariants.{Link as LinkEvent, Confirmed as ConfirmedEvent}
use Rattle.site_types.specs.declared.output.Output.{Output}
use Rattle.site_types.specs.declared.retained.Retained.{Retained}
use Rattle.site_types.specs.declared.site.Site.{Site}
use Rattle.site_types.specs.Done.{Done}
use Rattle.site_types.specs.Events.{is_confirming, is_some_with}
use Rattle.site_types.specs.Profile.{routing_of}
use Rattle.site_types.specs.Valid.{IsValid}
use Rattle.site_types.proofs.Done.{lt_false, lt_true}
use Rattle.routing_outputs.specs.declared.routing_state.RoutingState.TheVariants.{Idle, Waiting}
use Rattle.routing_outputs.specs.declared.routing_state.RoutingState.TheVariants.{Confirmed as IsConfirmed}
use Rattle.routing_outputs.specs.declared.routing_state.RoutingState.TheVariants.{Unconfirmed}
use Rattle.routing_outputs.specs.Confirmations.{Call, Turned as RoutingTurn, Confirmed, is_confirming_output, is_watched}
use Rattle.routing_outputs.specs.Confirmations.{is_on as is_on_in, with_confirmation, run_of, has_confirmation}
use Rattle.routing_outputs.specs.Confirmations.{ticks_of, spans, state_in, is_confirmed}
use Rattle.routing_outputs.specs.Confirmations.{is_unconfirmed as is_unconfirmed_state}
use Rattle.panel_rules.specs.Moments.{Moment, Began, Happened, Turned, Kept, tick_of, is_turn, is_fresh, IsRun}
use Rattle.panel_rules.specs.Latest.{made_latest}
use Rattle.panel_rules.specs.Markers.{Facts}
use Rattle.panel_rules.specs.Outputs.{on_output, panel_of_plan, panel_of_output, outputs_where, goes_on, is_on}
use Rattle.panel_rules.specs.Outputs.{on_run, confirmations, is_confirmed_in, has_lasted}
use Rattle.panel_rules.proofs.Counting.{each_to}
use Rattle.panel_rules.proofs.Floors.{le_from, le_to}
use Rattle.panel_rules.proofs.Turns.{own_turn}
use Rattle.panel_laws.specs.OperationLaws.{AreEventsOf}
use Rattle.panel_laws.proofs.FacesShow.{output_bit}
use Rattle.output_calls.specs.RoutingCalls.{confirmed_at, routing_calls, ConfirmedByCalls, UnconfirmedByCalls}
use Rattle.output_calls.proofs.Falling.{any_earliest, earliest_by, passed}
use Rattle.output_calls.proofs.Numbers.{numbered_is, same_output}
use Rattle.output_calls.proofs.RunTicks.{run_made, run_before, run_falls}

-- ---- the run of an output by the calls, and by the rules

-- the ticks of a run by the calls are those by the rules, and it is confirmed where that one is
record Agrees (number : ℕ) (calls : List Call) (run confirmed : List ℕ) : Type 0 where
  ticks : ticks_of (run_of number calls) ≡ run
  is_confirmed : has_confirmation number (run_of number calls) ≡ is_confirmed_in run confirmed

none_later : (tick : ℕ) (ticks : List ℕ) → AllByRecursion (λ t. t ≤ tick) ticks → list_any (nat_lt tick) ticks ≡ false
none_later tick [] by = refl
none_later tick (t ∷ ticks) by = let one = lt_false tick t by.0 in let rest = none_later tick ticks by.1 in rw (one, rest) refl

agrees_on : (number tick mask : ℕ) (calls : List Call) (run confirmed : List ℕ) → Agrees number calls run confirmed → is_on_in number mask ≡ true
    → AllByRecursion (λ t. t ≤ tick) confirmed → Agrees number (RoutingTurn tick mask ∷ calls) (tick ∷ run) confirmed
agrees_on number tick mask calls run confirmed h on by =
    let more : run_of number (RoutingTurn tick mask ∷ calls) ≡ RoutingTurn tick mask ∷ run_of number calls =
    ap (λ b. if b then RoutingTurn tick mask ∷ run_of number calls else []) on in
    record {
      ticks = ap ticks_of more ∙ ap (λ (ts : List ℕ). tick ∷ ts) h.ticks;
      is_confirmed =
          ap (has_confirmation number) more ∙ h.is_confirmed ∙ sym (ap (λ b. b || is_confirmed_in run confirmed) (none_later tick confirmed by));
    }

agrees_off : (number tick mask : ℕ) (calls : List Call) (confirmed : List ℕ) → is_on_in number mask ≡ false
    → Agrees number (RoutingTurn tick mask ∷ calls) [] confirmed
agrees_off number tick mask calls confirmed off =
    let none : run_of number (RoutingTurn tick mask ∷ calls) ≡ [] = ap (λ b. if b then RoutingTurn tick mask ∷ run_of number calls else []) off in
    record { ticks = ap ticks_of none; is_confirmed = ap (has_confirmation number) none }

-- a run has a turn
has_turn : (number : ℕ) (calls : List Call) → ticks_of (run_of number calls) ≡ [] → run_of number calls ≡ []
has_turn number [] none = refl
has_turn number (RoutingTurn tick mask ∷ calls) none = go (is_on_in number mask) none
  where
    go : (b : Bool) → ticks_of (if b then RoutingTurn tick mask ∷ run_of number calls else []) ≡ []
        → (if b then RoutingTurn tick mask ∷ run_of number calls else []) ≡ []
    go true e = cc
    go false e = refl
has_turn number (Confirmed other ∷ calls) none = go (run_of number calls) none (has_turn number calls)
  where
    go : (run : List Call) → ticks_of (with_confirmation other run) ≡ [] → (ticks_of run ≡ [] → run ≡ []) → with_confirmation other run ≡ []
    go [] e more = refl
    go (call ∷ run) e more = let none = more e in cc

-- the confirmation of another output
agrees_other : (number other : ℕ) (calls : List Call) (run confirmed : List ℕ) → number ≢ other → Agrees number calls run confirmed
    → Agrees number (Confirmed other ∷ calls) run confirmed
agrees_other number other calls run confirmed apart h =
    record { ticks = same_ticks (run_of number calls) ∙ h.ticks; is_confirmed = same_by (run_of number calls) ∙ h.is_confirmed }
  where
    same_ticks : (calls : List Call) → ticks_of (with_confirmation other calls) ≡ ticks_of calls
    same_ticks [] = refl
    same_ticks (call ∷ calls) = refl

    not_it : (other == number) ≡ false
    not_it = elim (eqb_tells other number) [ inl t ↦ absurd (apart (sym t.1)) | inr t ↦ t.0 ]

    same_by : (calls : List Call) → has_confirmation number (with_confirmation other calls) ≡ has_confirmation number calls
    same_by [] = refl
    same_by (call ∷ calls) = ap (λ b. b || has_confirmation number (call ∷ calls)) not_it

-- its own confirmation, in a tick after all of its turns
agrees_own : (number tick : ℕ) (calls : List Call) (run confirmed : List ℕ) → Agrees number calls run confirmed
    → AllByRecursion (λ t. t < tick) run → Agrees number (Confirmed number ∷ calls) run (tick ∷ confirmed)
agrees_own number tick calls run confirmed h before = go (run_of number calls) refl run h.ticks before
  where
    itself : (number == number) ≡ true
    itself = elim (eqb_tells number number) [ inl t ↦ t.0 | inr t ↦ absurd (t.1 refl) ]

    later_one : (t : ℕ) (run : List ℕ) → t < tick → is_confirmed_in (t ∷ run) (tick ∷ confirmed) ≡ true
    later_one t run less = let first = lt_true t tick less in rw first refl

    go : (made : List Call) → run_of number calls ≡ made → (run : List ℕ) → ticks_of (run_of number calls) ≡ run
        → AllByRecursion (λ t. t < tick) run → Agrees number (Confirmed number ∷ calls) run (tick ∷ confirmed)
    go [] is run ticks before =
        let none : run ≡ [] = sym ticks ∙ ap ticks_of is in
        let made : run_of number (Confirmed number ∷ calls) ≡ [] = ap (with_confirmation number) is in
        record {
          ticks = ap ticks_of made ∙ sym none;
          is_confirmed = ap (has_confirmation number) made ∙ sym (ap (λ (ts : List ℕ). is_confirmed_in ts (tick ∷ confirmed)) none);
        }
    go (call ∷ made) is [] ticks before = let none = has_turn number calls ticks in cc
    go (call ∷ made) is (t ∷ run) ticks before =
        let more : run_of number (Confirmed number ∷ calls) ≡ Confirmed number ∷ call ∷ made = ap (with_confirmation number) is in
        record {
          ticks = ap ticks_of more ∙ sym (ap ticks_of is) ∙ ticks;
          is_confirmed =
              ap (has_confirmation number) more ∙ ap (λ b. b || has_confirmation number (call ∷ made)) itself ∙ sym (later_one t run before.0);
        }

-- ---- what an output is at

confirmed_in : (watched : Bool) (limit number : ℕ) (run : List Call)
    → is_confirmed (if watched then state_in limit number run else Idle) ≡ (watched && has_confirmation number run)
confirmed_in false limit number run = refl
confirmed_in true limit number [] = refl
confirmed_in true limit number (call ∷ run) = go (has_confirmation number (call ∷ run)) (spans limit (ticks_of (call ∷ run)))
  where
    go : (b c : Bool) → is_confirmed (if b then IsConfirmed else (if c then Unconfirmed else Waiting)) ≡ b
    go true c = refl
    go false true = refl
    go false false = refl

unconfirmed_in : (watched : Bool) (limit number : ℕ) (run : List Call) → is_unconfirmed_state (if watched then state_in limit number run else Idle)
    ≡ (watched && (spans limit (ticks_of run) && not (has_confirmation number run)))
unconfirmed_in false limit number run = refl
unconfirmed_in true limit number [] = refl
unconfirmed_in true limit number (call ∷ run) = go (has_confirmation number (call ∷ run)) (spans limit (ticks_of (call ∷ run)))
  where
    go : (b c : Bool) → is_unconfirmed_state (if b then IsConfirmed else (if c then Unconfirmed else Waiting)) ≡ (c && not b)
    go true true = refl
    go true false = refl
    go false true = refl
    go false false = refl

-- a run spans the limit where it has lasted for so long
spans_is : (limit : ℕ) (run : List ℕ) → IsFalling run → spans limit run ≡ has_lasted limit run
spans_is limit [] falls = refl
spans_is limit (latest ∷ run) falls =
    sym
    (any_earliest (λ first. nat_le (first + limit) latest)
    (λ a b less holds. (let far = le_from (b + limit) latest holds in le_to (a + limit) latest (omega (arith, less, far)))) latest run falls
    ∙ passed limit (earliest latest run) latest (earliest_by latest run falls))

none_confirmed : (run : List ℕ) → is_confirmed_in run [] ≡ false
none_confirmed [] = refl
none_confirmed (first ∷ run) = none_confirmed run

within : (a b : Bool) → (a ≡ false → b ≡ false) → (a && b) ≡ b
within true b to = refl
within false b to = sym (to refl)

-- ---- over a run

module _ (site : Site) (facts : ℕ → List Moment → Facts) (kept : Retained) (done : List Done) (output : ℕ) (plan : Output) (valid : IsValid site)
    (is : slice_get site.outputs output ≡ Some plan) where
  panel_is : panel_of_output site output ≡ plan.panel
  panel_is = ap panel_of_plan is

  -- the run of turns after which it was on
  on_is : (m : List Moment)
      → on_run site facts kept done output m ≡ run_made (goes_on site facts kept done output) (panel_of_output site output) m
  on_is [] = refl
  on_is (Began ∷ before) = on_is before
  on_is (Happened event ∷ before) = on_is before
  on_is (Turned other Drive ∷ before) =
      ap (λ (run : List ℕ). if other == panel_of_output site output
      then (if goes_on site facts kept done output before then tick_of before ∷ run else []) else run) (on_is before)
  on_is (Turned other Poll ∷ before) = on_is before
  on_is (Turned other Decide ∷ before) = on_is before
  on_is (Turned other Supply ∷ before) = on_is before
  on_is (Turned other Desk ∷ before) = on_is before
  on_is (Turned other Hold ∷ before) = on_is before
  on_is (Turned other Link ∷ before) = on_is before
  on_is (Turned other Effect ∷ before) = on_is before
  on_is (Turned other Keep ∷ before) = on_is before
  on_is (Kept failed ∷ before) = on_is before

  on_before : (m : List Moment) → is_fresh m ≡ true → AllByRecursion (λ t. t < tick_of m) (on_run site facts kept done output m)
  on_before m fresh =
      subst (AllByRecursion (λ t. t < tick_of m)) (sym (on_is m))
      (run_before (goes_on site facts kept done output) (panel_of_output site output) m fresh)

  on_falls : (m : List Moment) → IsFalling (on_run site facts kept done output m)
  on_falls m = subst IsFalling (sym (on_is m)) (run_falls (goes_on site facts kept done output) (panel_of_output site output) m)

  -- no confirmation is later than the last tick
  confirmed_by : (m : List Moment) → AllByRecursion (λ t. t ≤ tick_of m) (confirmations output m)
  confirmed_by [] = tt
  confirmed_by (Began ∷ before) =
      each_to (λ t. t ≤ tick_of before) (λ t. t ≤ tick_of before + 1) (confirmations output before) (λ t less. omega (arith, less))
      (confirmed_by before)
  confirmed_by (Happened (ConfirmedEvent other) ∷ before) = go (other == output) (confirmed_by before)
    where
      go : (b : Bool) → AllByRecursion (λ t. t ≤ tick_of before) (confirmations output before)
          → AllByRecursion (λ t. t ≤ tick_of before) (if b then tick_of before ∷ confirmations output before else confirmations output before)
      go true by = (omega arith, by)
      go false by = by
  confirmed_by (Happened (Op panel code operation) ∷ before) = confirmed_by before
  confirmed_by (Happened (Point point state) ∷ before) = confirmed_by before
  confirmed_by (Happened (Cable panel line piece state) ∷ before) = confirmed_by before
  confirmed_by (Happened (SupplyEvent panel kind bad) ∷ before) = confirmed_by before
  confirmed_by (Happened (LinkEvent link up) ∷ before) = confirmed_by before
  confirmed_by (Turned other task ∷ before) = confirmed_by before
  confirmed_by (Kept failed ∷ before) = confirmed_by before

  -- an output that asks for no confirmation has none, where each event is of the site
  never_confirmed : (m : List Moment) → AreEventsOf site m → is_confirming plan.kind ≡ false → confirmations output m ≡ []
  never_confirmed [] events asks = refl
  never_confirmed (Began ∷ before) events asks = never_confirmed before events asks
  never_confirmed (Happened (ConfirmedEvent other) ∷ before) events asks = go (eqb_tells other output) (never_confirmed before events.0 asks)
    where
      go : (((other == output) ≡ true) × (other ≡ output)) ⊎ (((other == output) ≡ false) × (other ≢ output)) → confirmations output before ≡ []
          → (if other == output then tick_of before ∷ confirmations output before else confirmations output before) ≡ []
      go (inl t) none =
          let at : slice_get site.outputs other ≡ Some plan = ap (slice_get site.outputs) t.1 ∙ is in
          let told : is_confirming plan.kind ≡ true = sym (ap (is_some_with (λ (o : Output). is_confirming o.kind)) at) ∙ events.1 in
          let never : true ≡ false = sym told ∙ asks in
          cc
      go (inr t) none = ap (λ b. if b then tick_of before ∷ confirmations output before else confirmations output before) t.0 ∙ none
  never_confirmed (Happened (Op panel code operation) ∷ before) events asks = never_confirmed before events.0 asks
  never_confirmed (Happened (Point point state) ∷ before) events asks = never_confirmed before events.0 asks
  never_confirmed (Happened (Cable panel line piece state) ∷ before) events asks = never_confirmed before events.0 asks
  never_confirmed (Happened (SupplyEvent panel kind bad) ∷ before) events asks = never_confirmed before events.0 asks
  never_confirmed (Happened (LinkEvent link up) ∷ before) events asks = never_confirmed before events.0 asks
  never_confirmed (Turned other task ∷ before) events asks = never_confirmed before events asks
  never_confirmed (Kept failed ∷ before) events asks = never_confirmed before events asks

  -- the mask of a turn has the output where it goes on
  abbrev mask_at : List Moment → ℕ
  mask_at before = outputs_where site plan.panel (λ o. is_on site facts kept done o (Turned plan.panel Drive ∷ before))

  in_mask : (before : List Moment) → is_on_in plan.number (mask_at before) ≡ goes_on site facts kept done output before
  in_mask before =
      output_bit site valid output plan is (λ o. is_on site facts kept done o (Turned plan.panel Drive ∷ before))
      ∙ ap (λ b. if b then goes_on site facts kept done output before else made_latest false (panel_of_output site output) Drive (goes_on site facts kept done output) before)
      (ap (λ p. is_turn p Drive plan.panel Drive) panel_is ∙ own_turn plan.panel Drive)

  -- a confirmation of an output
  agrees_confirmed : (other tick : ℕ) (calls : List Call) (run confirmed : List ℕ) → Agrees plan.number calls run confirmed
      → AllByRecursion (λ t. t < tick) run
      → Agrees plan.number (confirmed_at plan.panel (slice_get site.outputs other) calls) run (if other == output then tick ∷ confirmed else confirmed)
  agrees_confirmed other tick calls run confirmed h before = go (eqb_tells other output)
    where
      itself : (plan.panel == plan.panel) ≡ true
      itself = elim (eqb_tells plan.panel plan.panel) [ inl t ↦ t.0 | inr t ↦ absurd (t.1 refl) ]

      by : (o : Option Output) → slice_get site.outputs other ≡ o → other ≢ output → Agrees plan.number (confirmed_at plan.panel o calls) run confirmed
      by None at apart = h
      by (Some q) at apart = at_panel (eqb_tells q.panel plan.panel)
        where
          at_panel : (((q.panel == plan.panel) ≡ true) × (q.panel ≡ plan.panel)) ⊎ (((q.panel == plan.panel) ≡ false) × (q.panel ≢ plan.panel))
              → Agrees plan.number (if q.panel == plan.panel then Confirmed q.number ∷ calls else calls) run confirmed
          at_panel (inl t) =
              subst (λ b. Agrees plan.number (if b then Confirmed q.number ∷ calls else calls) run confirmed) (sym t.0)
              (agrees_other plan.number q.number calls run confirmed (λ same. apart (same_output site valid other output q plan at is t.1 (sym same))) h)
          at_panel (inr t) = subst (λ b. Agrees plan.number (if b then Confirmed q.number ∷ calls else calls) run confirmed) (sym t.0) h

      go : (((other == output) ≡ true) × (other ≡ output)) ⊎ (((other == output) ≡ false) × (other ≢ output))
          → Agrees plan.number (confirmed_at plan.panel (slice_get site.outputs other) calls) run (if other == output then tick ∷ confirmed else confirmed)
      go (inl t) =
          subst (λ b. Agrees plan.number (confirmed_at plan.panel (slice_get site.outputs other) calls) run (if b then tick ∷ confirmed else confirmed))
          (sym t.0)
          (subst (λ (o : Option Output). Agrees plan.number (confirmed_at plan.panel o calls) run (tick ∷ confirmed))
          (sym (ap (slice_get site.outputs) t.1 ∙ is))
          (subst (λ b. Agrees plan.number (if b then Confirmed plan.number ∷ calls else calls) run (tick ∷ confirmed)) (sym itself)
          (agrees_own plan.number tick calls run confirmed h before)))
      go (inr t) =
          subst (λ b. Agrees plan.number (confirmed_at plan.panel (slice_get site.outputs other) calls) run (if b then tick ∷ confirmed else confirmed))
          (sym t.0) (by (slice_get site.outputs other) refl t.1)

  -- a turn of Drive
  agrees_turned : (other : ℕ) (before : List Moment)
      → Agrees plan.number (routing_calls site facts kept done plan.panel before) (on_run site facts kept done output before) (confirmations output before)
      → Agrees plan.number (routing_calls site facts kept done plan.panel (Turned other Drive ∷ before))
      (on_run site facts kept done output (Turned other Drive ∷ before)) (confirmations output before)
  agrees_turned other before h =
      subst (λ p. Agrees plan.number (routing_calls site facts kept done plan.panel (Turned other Drive ∷ before))
      (if other == p then made else stays) (confirmations output before)) (sym panel_is) (by (other == plan.panel))
    where
      stays : List ℕ
      stays = on_run site facts kept done output before

      made : List ℕ
      made = if goes_on site facts kept done output before then tick_of before ∷ stays else []

      turned : (c : Bool) → goes_on site facts kept done output before ≡ c
          → Agrees plan.number (RoutingTurn (tick_of before) (mask_at before) ∷ routing_calls site facts kept done plan.panel before)
          (if c then tick_of before ∷ stays else []) (confirmations output before)
      turned true goes =
          agrees_on plan.number (tick_of before) (mask_at before) (routing_calls site facts kept done plan.panel before) stays
          (confirmations output before) h (in_mask before ∙ goes) (confirmed_by before)
      turned false goes =
          agrees_off plan.number (tick_of before) (mask_at before) (routing_calls site facts kept done plan.panel before)
          (confirmations output before) (in_mask before ∙ goes)

      by : (b : Bool)
          → Agrees plan.number
          (if b then RoutingTurn (tick_of before) (mask_at before) ∷ routing_calls site facts kept done plan.panel before
          else routing_calls site facts kept done plan.panel before) (if b then made else stays) (confirmations output before)
      by true = turned (goes_on site facts kept done output before) refl
      by false = h

  agree : (m : List Moment) → IsRun site.panels m
      → Agrees plan.number (routing_calls site facts kept done plan.panel m) (on_run site facts kept done output m) (confirmations output m)
  agree [] run = record { ticks = refl; is_confirmed = refl }
  agree (Began ∷ before) run = agree before run.0
  agree (Happened (ConfirmedEvent other) ∷ before) run =
      agrees_confirmed other (tick_of before) (routing_calls site facts kept done plan.panel before) (on_run site facts kept done output before)
      (confirmations output before) (agree before run.0) (on_before before run.1)
  agree (Happened (Op panel code operation) ∷ before) run = agree before run.0
  agree (Happened (Point point state) ∷ before) run = agree before run.0
  agree (Happened (Cable panel line piece state) ∷ before) run = agree before run.0
  agree (Happened (SupplyEvent panel kind bad) ∷ before) run = agree before run.0
  agree (Happened (LinkEvent link up) ∷ before) run = agree before run.0
  agree (Turned other Drive ∷ before) run = agrees_turned other before (agree before run.0)
  agree (Turned other Poll ∷ before) run = agree before run.0
  agree (Turned other Decide ∷ before) run = agree before run.0
  agree (Turned other Supply ∷ before) run = agree before run.0
  agree (Turned other Desk ∷ before) run = agree before run.0
  agree (Turned other Hold ∷ before) run = agree before run.0
  agree (Turned other Link ∷ before) run = agree before run.0
  agree (Turned other Effect ∷ before) run = agree before run.0
  agree (Turned other Keep ∷ before) run = agree before run.0
  agree (Kept failed ∷ before) run = agree before run.0

  watched_is : is_watched site plan.panel plan.number ≡ is_confirming plan.kind
  watched_is = ap is_confirming_output (numbered_is site valid output plan is)

pub confirmed : ConfirmedByCalls
confirmed site facts kept done limit output plan m valid is run events =
    let calls = routing_calls site facts kept done plan.panel m in
    let on = on_run site facts kept done output m in
    let h = agree site facts kept done output plan valid is m run in
    confirmed_in (is_watched site plan.panel plan.number) limit plan.number (run_of plan.number calls)
    ∙ ap (λ b. b && has_confirmation plan.number (run_of plan.number calls)) (watched_is site facts kept done output plan valid is)
    ∙ ap (λ b. is_confirming plan.kind && b) h.is_confirmed
    ∙ within (is_confirming plan.kind) (is_confirmed_in on (confirmations output m))
    (λ asks. ap (is_confirmed_in on) (never_confirmed site facts kept done output plan valid is m events asks) ∙ none_confirmed on)

pub unconfirmed : UnconfirmedByCalls
unconfirmed site facts kept done output plan m valid is run =
    let calls = routing_calls site facts kept done plan.panel m in
    let on = on_run site facts kept done output m in
    let h = agree site facts kept done output plan valid is m run in
    unconfirmed_in (is_watched site plan.panel plan.number) (routing_of site.format) plan.number (run_of plan.number calls)
    ∙ ap (λ b. b && (spans (routing_of site.format) (ticks_of (run_of plan.number calls)) && not (has_confirmation plan.number (run_of plan.number calls))))
    (watched_is site facts kept done output plan valid is)
    ∙ ap (λ (ts : List ℕ). is_confirming plan.kind && (spans (routing_of site.format) ts && not (has_confirmation plan.number (run_of plan.number calls)))) h.ticks
    ∙ ap (λ b. is_confirming plan.kind && (spans (routing_of site.format) on && not b)) h.is_confirmed
    ∙ ap (λ b. is_confirming plan.kind && (b && not (is_confirmed_in on (confirmations output m))))
    (spans_is (routing_of site.format) on (on_falls site facts kept done output plan valid is m))
    ∙ sym (ap (λ (o : Option Output). on_output (λ o. is_confirming o.kind) o
    && (has_lasted (routing_of site.format) on && not (is_confirmed_in on (confirmations output m)))) is)

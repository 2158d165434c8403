-- When an output is on after a tick whose panel's turns of Effect go by any facts.
use Rattle.std.proofs.Common.{◌≡◌, ℕ, zero, suc, ◌+◌, ◌≤◌, ◌<◌, ◌&&◌, ◌||◌, List, [], ◌∷◌, Option, Some, None, true, false, if◌then◌else◌}
use Rattle.std.proofs.Common.{refl, sym, ◌∙◌, ap, subst, arith}
use Rattle.std.specs.Prelude.{nat_le}
use Rattle.tick_units.specs.declared.task.Task.TheVariants.{Effect, Drive}
use Rattle.site_types.specs.declared.retained.Retained.{Retained}
use Rattle.site_types.specs.declared.site.Site.{Site}
use Rattle.site_types.specs.Done.{Done, OutputOff, in_force, override_done_in, silence_before}
use Rattle.site_types.specs.Valid.{IsValid}
use Rattle.panel_rules.specs.CausedOutputs.{before_effect}
use Rattle.panel_rules.specs.Markers.{Facts, hand_facts}
use Rattle.panel_rules.specs.Moments.{Moment, Turned, tick_of, IsPanel, IsRun, HaveAllTurned, up_to, latest_turn, before_turn}
use Rattle.panel_rules.specs.Outputs.{panel_of_output, delay_of, is_sounder, is_true_over, is_requested, is_requested_by_hand, asked_run, released_at_drive}
use Rattle.panel_rules.specs.Outputs.{stays_within, silence_holds, is_quiet, is_over, may_act, goes_on, is_on}
use Rattle.panel_rules.proofs.AnswersTell.{eq_true}
use Rattle.panel_rules.proofs.Bools.{both, either_left, either_right, not_true}
use Rattle.panel_rules.proofs.Floors.{le_to}
use Rattle.panel_rules.proofs.Stays.{up_to_here}
use Rattle.panel_rules.proofs.Turns.{run_tail, before_tick, before_past}
use Rattle.panel_laws.proofs.DriveTurns.{made_before, turn_past, owed_before, up_to_past, ended_at, run_now, run_latest, within_latest}
use Rattle.panel_laws.proofs.DueOn.{silence_lt, one_before, same_past, Among, first, further, any_among, LiesBefore}
use Rattle.panel_laws.proofs.EffectWords.{drive_tick, effect_late}

module _ (site : Site) (kept : Retained) (done : List Done) (facts : ℕ → List Moment → Facts) (output : ℕ) (valid : IsValid site)
    (p : IsPanel site.panels (panel_of_output site output)) where
  abbrev panel : ℕ
  panel = panel_of_output site output

  -- the facts of the turn of Effect that the latest turn of Drive goes by
  abbrev pub facts_driven : List Moment → Facts
  facts_driven m = facts panel (before_effect site kept done m panel)

  -- the output is requested, and requested by hand, at the latest turn of Drive
  abbrev pub IsAsked : List Moment → Type 0
  IsAsked m = is_requested site facts output (before_turn panel Drive m) ≡ true

  abbrev pub IsAskedByHand : List Moment → Type 0
  IsAskedByHand m = is_requested_by_hand site facts output (before_turn panel Drive m) ≡ true

  pub asked : (m : List Moment) → IsRun site.panels m → HaveAllTurned site.panels m → 2 ≤ tick_of m → is_true_over site output (facts_driven m) ≡ true
      → IsAsked m
  asked m run ended l h =
      made_before false panel Effect (λ before. is_true_over site output (facts panel before))
      (before_turn panel Drive m)
      (let e = effect_late site kept done m valid run ended panel p in omega (arith, e, l))
      ∙ h

  pub asked_by_hand : (m : List Moment) → IsRun site.panels m → HaveAllTurned site.panels m → 2 ≤ tick_of m
      → is_true_over site output (hand_facts (facts_driven m)) ≡ true → IsAskedByHand m
  asked_by_hand m run ended l h =
      made_before false panel Effect
      (λ before. is_true_over site output (hand_facts (facts panel before)))
      (before_turn panel Drive m)
      (let e = effect_late site kept done m valid run ended panel p in omega (arith, e, l))
      ∙ h

  -- the run of requests goes back over each tick in which it was requested
  run_head : (m : List Moment) → IsRun site.panels m → HaveAllTurned site.panels m → 1 ≤ tick_of m → IsAsked m
      → asked_run site facts output m ≡ tick_of m ∷ asked_run site facts output (before_turn panel Drive m)
  run_head m run ended l r =
      let t = drive_tick site kept done m valid run ended panel p in
      run_latest site facts output m (omega (arith, t, l))
      ∙ ap (λ b. if b then latest_turn panel Drive m
      ∷ asked_run site facts output (before_turn panel Drive m) else []) r
      ∙ ap (λ x. x ∷ asked_run site facts output (before_turn panel Drive m)) t

  run_back : (m : List Moment) (t : ℕ) → IsRun site.panels m → HaveAllTurned site.panels m → tick_of m ≡ t + 1
      → asked_run site facts output (before_turn panel Drive m) ≡ asked_run site facts output (up_to t m)
  run_back m t run ended e =
      let at = drive_tick site kept done m valid run ended panel p in
      let past = before_past panel Drive m in
      let tick = before_tick panel Drive m in
      run_now site facts site.panels t output (before_turn panel Drive m)
      (run_tail site.panels (before_turn panel Drive m) m past run)
      (owed_before site.panels panel Drive m run (omega (arith, at, e))) (tick ∙ at ∙ e)
      ∙ ap (asked_run site facts output)
      (sym (up_to_past t (before_turn panel Drive m) m past (omega (arith, tick, at, e))))

  -- it was requested in each tick of a span that ends now
  abbrev pub IsAskedThrough : ℕ → List Moment → Type 0
  IsAskedThrough n m = (t : ℕ) → tick_of m ≤ t + n → t ≤ tick_of m → IsAsked (up_to t m)

  asked_now : (n : ℕ) (m : List Moment) → IsAskedThrough n m → IsAsked m
  asked_now n m each = subst IsAsked (up_to_here m) (each (tick_of m) (omega arith) (omega arith))

  covers : (n : ℕ) (m : List Moment) → IsRun site.panels m → HaveAllTurned site.panels m → n < tick_of m → IsAskedThrough n m
      → LiesBefore n (tick_of m) (asked_run site facts output m)
  covers zero m run ended l each =
      let head = run_head m run ended (omega (arith, l)) (asked_now 0 m each) in
      record {
        tick = tick_of m;
        among =
            subst (Among (tick_of m)) (sym head) (first (asked_run site facts output (before_turn panel Drive m)));
        far = omega arith;
      }
  covers (suc n) m run ended l each =
      let b = one_before (tick_of m) (omega (arith, l)) in
      let u = b.0 in
      let e = b.1 in
      let head = run_head m run ended (omega (arith, l)) (asked_now (suc n) m each) in
      let back = run_back m b.0 run ended e in
      let past = ended_at site.panels b.0 m run (omega (arith, e)) in
      let k = past.tick in
      let earlier =
      covers n (up_to b.0 m) past.run past.ended (omega (arith, k, l, e))
      (λ t c d. subst IsAsked (same_past m b.0 t (omega (arith, k, d)) past.tick) (each t (omega (arith, k, c, e)) (omega (arith, k, d, e)))) in
      let far = earlier.far in
      record {
        tick = earlier.tick;
        among =
            subst (Among earlier.tick) (sym head)
            (further (tick_of m) (asked_run site facts output (before_turn panel Drive m))
            (subst (Among earlier.tick) (sym back) earlier.among));
        far = omega (arith, far, k, e);
      }

  module _ (m : List Moment) (run : IsRun site.panels m) (ended : HaveAllTurned site.panels m) (one : 1 ≤ tick_of m) where
    at_drive : latest_turn panel Drive m ≡ tick_of m
    at_drive = drive_tick site kept done m valid run ended panel p

    drive_is : tick_of (before_turn panel Drive m) ≡ tick_of m
    drive_is = before_tick panel Drive m ∙ at_drive

    -- what was quiet at Drive's turn is quiet after the tick
    quiet_same : is_quiet site facts kept done panel m
        ≡ is_quiet site facts kept done panel (Turned panel Drive
        ∷ before_turn panel Drive m)
    quiet_same =
        go (silence_before panel (tick_of m) done) refl
        ∙ ap (λ t. silence_holds site facts panel (Turned panel Drive
        ∷ before_turn panel Drive m) (silence_before panel t done)) (sym drive_is)
      where
        go : (o : Option ℕ) → silence_before panel (tick_of m) done ≡ o
            → silence_holds site facts panel m o
            ≡ silence_holds site facts panel (Turned panel Drive
            ∷ before_turn panel Drive m) o
        go None e = refl
        go (Some k) e =
            let l = silence_lt panel (tick_of m) done k e in
            let d = drive_is in
            let t = at_drive in
            within_latest site facts panel k (released_at_drive site facts panel (up_to k m)) m
            (omega (arith, t, one))
            ∙ ap (λ h. stays_within site facts panel k (released_at_drive site facts panel h)
            (Turned panel Drive ∷ before_turn panel Drive m))
            (up_to_past k (Turned panel Drive ∷ before_turn panel Drive m) m
            (turn_past panel Drive m (omega (arith, t, one))) (omega (arith, l, d)))

    -- the output may be on
    pub record IsFree : Type 0 where
      pub enabled : in_force site kept (OutputOff output) (tick_of m) done ≡ false
      pub heard : (is_sounder site output && is_quiet site facts kept done panel m) ≡ false

    -- all that an output needs
    on_by : IsAsked m → IsFree → may_act site facts kept done output (before_turn panel Drive m) ≡ true
        → is_on site facts kept done output m ≡ true
    on_by requested free may =
        let t = at_drive in
        made_before false panel Drive (goes_on site facts kept done output) m (omega (arith, t, one))
        ∙ both _ _ (both _ _ requested (not_true _ (ap (λ x. in_force site kept (OutputOff output) x done) drive_is ∙ free.enabled)))
        (both _ _ (not_true _ (ap (λ b. is_sounder site output && b) (sym quiet_same) ∙ free.heard)) may)

    -- the run that Drive's turn sees is the one after it
    run_same : IsAsked m → asked_run site facts output (Turned panel Drive ∷ before_turn panel Drive m)
        ≡ asked_run site facts output m
    run_same requested =
        ap (λ b. if b then (if is_requested site facts output (before_turn panel Drive m) then tick_of (before_turn panel Drive m) ∷ asked_run site facts output (before_turn panel Drive m) else []) else asked_run site facts output (before_turn panel Drive m)) (eq_true panel panel refl)
        ∙ ap (λ b. if b then tick_of (before_turn panel Drive m)
        ∷ asked_run site facts output (before_turn panel Drive m) else []) requested
        ∙ ap (λ x. x ∷ asked_run site facts output (before_turn panel Drive m)) drive_is
        ∙ sym (run_head m run ended one requested)

    by_span : IsAsked m → LiesBefore (delay_of site output) (tick_of m) (asked_run site facts output m)
        → may_act site facts kept done output (before_turn panel Drive m) ≡ true
    by_span requested lies =
        let far = lies.far in
        let d = drive_is in
        either_right _ _
        (either_right _ _
        (ap (is_over site facts kept done panel (delay_of site output)
        (tick_of (before_turn panel Drive m))) (run_same requested)
        ∙ any_among (λ first. nat_le (first + delay_of site output) (tick_of (before_turn panel Drive m))
        || override_done_in panel first (tick_of (before_turn panel Drive m)) done) lies.tick
        (asked_run site facts output m) lies.among
        (either_left _ _ (le_to (lies.tick + delay_of site output) (tick_of (before_turn panel Drive m))
        (omega (arith, far, d))))))

    -- it is on where it is requested by hand, or was requested for as long as its delay
    pub on_by_hand : IsFree → IsAsked m → IsAskedByHand m → is_on site facts kept done output m ≡ true
    on_by_hand free requested hand = on_by requested free (either_left _ _ (either_left _ _ hand))

    pub on_through : IsFree → delay_of site output < tick_of m → IsAskedThrough (delay_of site output) m → is_on site facts kept done output m ≡ true
    on_through free begins each =
        let requested = asked_now (delay_of site output) m each in
        on_by requested free (by_span requested (covers (delay_of site output) m run ended begins each))

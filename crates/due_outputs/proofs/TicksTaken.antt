-- After a tick the runs of the outputs are those of all ticks so far.
use Rattle.std.proofs.Common.{◌≡◌, ◌↔◌, ◌⊎◌, ◌<◌, ◌≤◌, ◌+◌, ◌-◌, inl, inr, ℕ, zero, suc, Bool, true, false, List, [], ◌∷◌, length, Some, refl, sym, ◌∙◌, ap, subst, add-one, arith}
use Rattle.std.specs.Prelude.{IsTrue, slice_get}
use Rattle.std.proofs.lemmas.Option.{slice_get_within}
use Rattle.site_types.specs.declared.output.Output.{Output}
use Rattle.site_types.specs.declared.retained.Retained.{Retained}
use Rattle.site_types.specs.declared.site.Site.{Site}
use Rattle.site_types.specs.Done.{Done}
use Rattle.site_types.specs.Valid.{IsValid}
use Rattle.site_types.proofs.ValidSites.{output_at}
use Rattle.cause_effect.specs.Cycles.{HasNoCycle}
use Rattle.panel_rules.specs.DueOutputs.{IsDueAsked, IsDueAskedByHand, IsDueThrough}
use Rattle.panel_rules.specs.Moments.{TickBlock, moments, tick_of, up_to}
use Rattle.panel_rules.specs.Outputs.{delay_of, delay_of_plan}
use Rattle.panel_laws.proofs.DueOn.{hand_due, late_enough, output_panel}
use Rattle.run_text.proofs.TickTimes.{tick_moments, up_to_earlier, whole_up_to}
use Rattle.due_zones.specs.declared.due_zones.DueZones.{DueZones}
use Rattle.due_zones.specs.Telling.{AreDueAtEach}
use Rattle.due_outputs.specs.declared.due_outputs.DueOutputs.{DueOutputs}
use Rattle.due_outputs.specs.declared.output_run.OutputRun.{OutputRun}
use Rattle.due_outputs.specs.declared.panel_markers.PanelMarkers.{PanelMarkers}
use Rattle.due_outputs.proofs.Places.{same_some}
use Rattle.due_outputs.specs.Runs.{AreNoRuns, LastsSince, TakeRuns, TakesRun, since_with}
use Rattle.due_outputs.specs.Solved.{AreSolved, HaveGone, HaveSolved}
use Rattle.due_outputs.specs.Stands.{IsAskedAfter, IsRunOf, StandsFor}
use Rattle.due_outputs.proofs.Asked.{asked_is, by_hand_is}
use Rattle.due_outputs.proofs.Lasting.{lasts_same, lasts_span, lasts_with, span_lasts}

got : {X : Type 0} (xs : List X) (k : ℕ) → k < length xs → (x : X) × (slice_get xs k ≡ Some x)
got [] k l = absurd (omega (arith, l))
got (x ∷ xs) zero l = (x, refl)
got (x ∷ xs) (suc k) l = got xs k (omega (arith, l))

module _ (site : Site) (kept : Retained) (done : List Done) (tick : TickBlock) (ticks : List TickBlock) (output : ℕ) where
  -- what was so far is so over all ticks
  lasts_so_far : (since : ℕ) → LastsSince (IsAskedAfter site kept done ticks output) (length ticks) since
      → LastsSince (IsAskedAfter site kept done (tick ∷ ticks) output) (length ticks) since
  lasts_so_far since lasts =
      lasts_same (IsAskedAfter site kept done ticks output) (IsAskedAfter site kept done (tick ∷ ticks) output) (length ticks) since
      (λ t by h. subst (λ m. IsDueAsked site kept done m output) (sym (up_to_earlier tick ticks t by)) h)
      (λ t by h. subst (λ m. IsDueAsked site kept done m output) (up_to_earlier tick ticks t by) h) lasts

  now_is : up_to (length ticks + 1) (moments (tick ∷ ticks)) ≡ moments (tick ∷ ticks)
  now_is = ap (λ n. up_to n (moments (tick ∷ ticks))) (add-one (length ticks)) ∙ whole_up_to (tick ∷ ticks)

  lasts_one_more : (since : ℕ) (asked : Bool) → (asked ≡ true) ↔ IsDueAsked site kept done (moments (tick ∷ ticks)) output
      → LastsSince (IsAskedAfter site kept done ticks output) (length ticks) since
      → LastsSince (IsAskedAfter site kept done (tick ∷ ticks) output) (length (tick ∷ ticks)) (since_with (length ticks + 1) asked since)
  lasts_one_more since asked tells lasts =
      subst (λ n. LastsSince (IsAskedAfter site kept done (tick ∷ ticks) output) n (since_with (length ticks + 1) asked since)) (add-one (length ticks))
      (lasts_with (IsAskedAfter site kept done (tick ∷ ticks) output) (length ticks) since (lasts_so_far since lasts) asked (
        λ h. subst (λ m. IsDueAsked site kept done m output) (sym now_is) (tells.0 h),
        λ h. tells.1 (subst (λ m. IsDueAsked site kept done m output) now_is h),
      ))

module _ (site : Site) (kept : Retained) (done : List Done) (tick : TickBlock) (ticks : List TickBlock) (valid : IsValid site) (free :
    HasNoCycle site) (due : List DueZones) (panels : List PanelMarkers) (size : length due ≡ 8) (are :
    AreDueAtEach site kept done (moments (tick ∷ ticks)) due) (gone : HaveGone site due panels) where
  run_is : (place : ℕ) (before after : OutputRun) → TakesRun site panels (length ticks + 1) place before after
      → IsRunOf site kept done ticks place before → IsRunOf site kept done (tick ∷ ticks) place after
  run_is place before after takes run =
      let output = takes.output in
      let plan = output_at site valid place output takes.is in
      let low = plan.panel.0 in
      let high = plan.panel.1 in
      let most = valid.forms.panels.1 in
      let zones = got due (output.panel - 1) (omega (arith, low, high, most, size)) in
      let go = gone.each (output.panel - 1) zones.0 takes.markers zones.1 takes.at_panel in
      let due_there = are output.panel zones.0 plan.panel zones.1 in
      let asked =
      asked_is site kept done (moments (tick ∷ ticks)) output.panel zones.0 due_there valid free place output takes.is refl takes.markers.out takes.asked go.out
      takes.tells_asked in
      let by_hand =
      by_hand_is site kept done (moments (tick ∷ ticks)) output.panel zones.0 due_there valid free place output takes.is refl takes.markers.hand
      takes.by_hand go.hand takes.tells_by_hand in
      subst (IsRunOf site kept done (tick ∷ ticks) place) (sym takes.goes_on)
      (record { lasts = lasts_one_more site kept done tick ticks place before.since takes.asked asked run.lasts; by_hand = by_hand })

  pub solved_still : HaveSolved site panels
  solved_still = record {
    size = gone.size;
    each = λ place markers at. (
        let zones = got due place (let l = slice_get_within panels place markers at in let n = gone.size in omega (arith, l, n, size)) in
        let go = gone.each place zones.0 markers zones.1 at in
        record {
          out = record { facts = refl; solution = go.out.solution };
          hand = record { facts = refl; solution = go.hand.solution };
        });
  }

  pub taken : (old new : DueOutputs) → StandsFor site kept done ticks old → new.latest.0 ≡ length ticks + 1 → new.panels ≡ panels
      → TakeRuns site panels (length ticks + 1) old.runs.items new.runs.items → StandsFor site kept done (tick ∷ ticks) new
  taken old new stands now same runs = record {
    tick = now ∙ add-one (length ticks);
    solved = subst (HaveSolved site) (sym same) solved_still;
    size = runs.size ∙ stands.size;
    each = λ place after at. (
        let was = got old.runs.items place
        (let l = slice_get_within new.runs.items place after at in let n = runs.size in omega (arith, l, n)) in
        run_is place was.0 after (runs.each place was.0 after was.1 at) (stands.each place was.0 was.1));
  }

-- ---- what is kept tells whether an output is due

module _ (site : Site) (kept : Retained) (done : List Done) (ticks : List TickBlock) (place now : ℕ) (output : Output) (run : OutputRun) (at :
    slice_get site.outputs place ≡ Some output) (is : now ≡ length ticks) (stands : IsRunOf site kept done ticks place run) where
  tick_is : tick_of (moments ticks) ≡ length ticks
  tick_is = tick_moments ticks

  delay_is : delay_of site place ≡ output.delay
  delay_is = ap delay_of_plan at

  through : (1 ≤ run.since) → run.since + output.delay ≤ now → IsDueThrough site kept done (moments ticks) place
  through some long =
      let t = tick_is in
      let d = delay_is in
      record {
        begins = omega (arith, t, d, some, long, is);
        each = λ tick low high.
            span_lasts (IsAskedAfter site kept done ticks place) (length ticks) run.since stands.lasts output.delay some (omega (arith, long, is)) tick
            (omega (arith, low, t, d)) (omega (arith, high, t));
      }

  back : IsDueThrough site kept done (moments ticks) place → (1 ≤ run.since) × (run.since + output.delay ≤ now)
  back h =
      let t = tick_is in
      let d = delay_is in
      let b = h.begins in
      let lasts =
      lasts_span (IsAskedAfter site kept done ticks place) (length ticks) run.since stands.lasts output.delay (omega (arith, b, t, d))
      (λ tick low high. h.each tick (omega (arith, low, t, d)) (omega (arith, high, t))) in
      let long = lasts.1 in
      (lasts.0, omega (arith, long, is))

  pub due_is : (answer : Bool) → IsTrue answer ↔ ((run.by_hand ≡ true) ⊎ ((1 ≤ run.since) × (run.since + output.delay ≤ now)))
      → IsTrue answer ↔ (IsDueAskedByHand site kept done (moments ticks) place ⊎ IsDueThrough site kept done (moments ticks) place)
  due_is answer tells = (λ h. there (tells.0 h), λ h. tells.1 (here h))
    where
      there : (run.by_hand ≡ true) ⊎ ((1 ≤ run.since) × (run.since + output.delay ≤ now))
          → IsDueAskedByHand site kept done (moments ticks) place ⊎ IsDueThrough site kept done (moments ticks) place
      there (inl h) = inl (stands.by_hand.0 h)
      there (inr h) = inr (through h.0 h.1)

      here : IsDueAskedByHand site kept done (moments ticks) place ⊎ IsDueThrough site kept done (moments ticks) place
          → (run.by_hand ≡ true) ⊎ ((1 ≤ run.since) × (run.since + output.delay ≤ now))
      here (inl h) = inl (stands.by_hand.1 h)
      here (inr h) = inr (back h)

-- ---- before the first tick

each_of_eight : {X : Type 0} (P : X → Type 0) (x : X) → P x → (k : ℕ) (y : X)
    → slice_get (x ∷ x ∷ x ∷ x ∷ x ∷ x ∷ x ∷ x ∷ []) k ≡ Some y → P y
each_of_eight P x p zero y at = subst P (same_some x y at) p
each_of_eight P x p (suc zero) y at = subst P (same_some x y at) p
each_of_eight P x p (suc (suc zero)) y at = subst P (same_some x y at) p
each_of_eight P x p (suc (suc (suc zero))) y at = subst P (same_some x y at) p
each_of_eight P x p (suc (suc (suc (suc zero)))) y at = subst P (same_some x y at) p
each_of_eight P x p (suc (suc (suc (suc (suc zero))))) y at = subst P (same_some x y at) p
each_of_eight P x p (suc (suc (suc (suc (suc (suc zero)))))) y at = subst P (same_some x y at) p
each_of_eight P x p (suc (suc (suc (suc (suc (suc (suc zero))))))) y at = subst P (same_some x y at) p
each_of_eight P x p (suc (suc (suc (suc (suc (suc (suc (suc k)))))))) y at = absurd cc

-- nothing is due before the first tick
none_yet : (site : Site) → IsValid site → (kept : Retained) (done : List Done) (output : ℕ) → IsDueAskedByHand site kept done [] output → ⊥
none_yet site valid kept done output h =
    let p = output_panel site valid output h.facts h.asks in
    let late = late_enough site kept done output valid p [] (hand_due site kept done output valid p [] h) in
    omega (arith, late)

first_run : (site : Site) → IsValid site → (kept : Retained) (done : List Done) (output : ℕ)
    → IsRunOf site kept done [] output (record { since = 0; by_hand = false })
first_run site valid kept done output = record {
  lasts = record {
    by = omega arith;
    through = λ tick some. absurd (omega (arith, some));
    ended = λ none some. absurd (omega (arith, some));
    began = λ before some next. absurd (omega (arith, next));
  };
  by_hand = (λ h. cc, λ h. absurd (none_yet site valid kept done output h));
}

pub stands_first : (site : Site) (kept : Retained) (done : List Done) (due : DueOutputs) (markers : PanelMarkers) → IsValid site → AreSolved site markers
    → due.latest.0 ≡ 0 → due.panels ≡ markers ∷ markers ∷ markers ∷ markers ∷ markers ∷ markers ∷ markers ∷ markers ∷ []
    → AreNoRuns (length site.outputs) due.runs.items → StandsFor site kept done [] due
stands_first site kept done due markers valid solved now panels runs = record {
  tick = now;
  solved = record {
    size = ap length panels;
    each = λ place other at. each_of_eight (AreSolved site) markers solved place other (subst (λ xs. slice_get xs place ≡ Some other) panels at);
  };
  size = runs.size;
  each = λ output run at. subst (IsRunOf site kept done [] output) (sym (runs.each output run at)) (first_run site valid kept done output);
}

-- What two solutions over the facts of the latest turn ask for is what the rules ask for.
use Rattle.std.proofs.Common.{◌≡◌, ◌+◌, ◌==◌, ◌&&◌, ℕ, zero, suc, Bool, true, false, List, Option, Some, None}
use Rattle.std.proofs.Common.{length, slice_get, refl, sym, ◌∙◌, ap}
use Rattle.std.specs.List.{list_any}
use Rattle.tick_units.specs.declared.task.Task.TheVariants.{Effect}
use Rattle.site_types.specs.declared.marker.Marker.{Marker as MarkerPlan}
use Rattle.site_types.specs.declared.output.Output.{Output}
use Rattle.site_types.specs.declared.requests.Requests.{Requests}
use Rattle.site_types.specs.declared.site.Site.{Site}
use Rattle.site_types.specs.declared.term.Term.{Term}
use Rattle.site_types.specs.declared.term.Term.TheVariants.{Zone, Manual, Fault, Marker}
use Rattle.site_types.specs.Valid.{IsMarker, IsValid}
use Rattle.site_types.proofs.Masks.{mask_same}
use Rattle.site_types.proofs.Places.{all_at}
use Rattle.marker_table.specs.declared.facts.Facts.{Facts as Masks}
use Rattle.marker_table.specs.Equations.{is_met, values_of}
use Rattle.cause_effect.specs.Cycles.{HasNoCycle}
use Rattle.cause_effect.specs.Requests.{asked, asks}
use Rattle.cause_effect.specs.Solutions.{IsSolution}
use Rattle.cause_effect.proofs.Truths.{same_bool}
use Rattle.panel_rules.specs.Latest.{made_latest}
use Rattle.panel_rules.specs.Markers.{Facts, equation, hand_facts, holds, solution, solved}
use Rattle.panel_rules.specs.Moments.{Moment}
use Rattle.panel_rules.specs.Outputs.{is_requested, is_requested_by_hand, is_true_over, on_output, on_place, output_numbered, outputs_where}
use Rattle.panel_rules.specs.Outputs.{panel_of_plan}
use Rattle.panel_rules.proofs.AnswersTell.{position_got}
use Rattle.panel_rules.proofs.Bools.{any_at, at_any, both, parts}
use Rattle.panel_rules.proofs.ValidLayout.{position_unique}
use Rattle.panel_laws.proofs.AnswerLaws.{eq_is}
use Rattle.panel_laws.proofs.Solutions.{no_other, one_holds}
use Rattle.panel_bridges.specs.FactMasks.{AreFacts}
use Rattle.panel_bridges.proofs.MaskEquations.{equation_same}
use Rattle.output_calls.specs.DelayCalls.{requests_at}
use Rattle.output_calls.proofs.Numbers.{same_output}
use Rattle.panel_effects.specs.Masks.{hand_masks, no_facts}
use Rattle.panel_effects.specs.Stands.{HasEffects, facts_at_effect}
use Rattle.panel_effects.specs.declared.effects.Effects.{Effects}
use Rattle.panel_effects.proofs.FactsAsMasks.{facts_are, hand_masks_are}
use Rattle.panel_effects.proofs.LatestFacts.{made_of}

-- ---- where no fact is true, no marker is

module _ (values : ℕ → Bool) (none : (m : ℕ) → values m ≡ false) where
  no_term : (term : Term) → holds no_facts values term ≡ true → ⊥
  no_term (Zone zone) h = cc
  no_term (Manual zone) h = cc
  no_term (Fault panel) h = cc
  no_term (Marker other) h = let f = none other in let never : true ≡ false = sym h ∙ f in cc

  none_met : (o : Option MarkerPlan) → ((marker : MarkerPlan) → o ≡ Some marker → IsMarker marker) → equation no_facts values o ≡ false
  none_met None is = refl
  none_met (Some marker) is = go (is_met marker.combine (holds no_facts values) marker.terms) refl
    where
      go : (b : Bool) → is_met marker.combine (holds no_facts values) marker.terms ≡ b → b ≡ false
      go false e = refl
      go true e =
          let form = is marker refl in
          let one = one_holds marker.combine (holds no_facts values) marker.terms form.terms.0 form.combine e in
          absurd (no_term one.item one.passes)

none_solved : (site : Site) → IsValid site → (depth m : ℕ) → solved site no_facts depth m ≡ false
none_solved site valid zero m = refl
none_solved site valid (suc depth) m =
    none_met (solved site no_facts depth) (none_solved site valid depth) (slice_get site.markers m)
    (λ marker at. all_at IsMarker site.markers m marker valid.forms.markers at)

none_true_over : (site : Site) → IsValid site → (output : ℕ) → is_true_over site output no_facts ≡ false
none_true_over site valid output = go (slice_get site.outputs output)
  where
    go : (plan : Option Output) → on_output (λ o. solution site no_facts o.marker) plan ≡ false
    go None = refl
    go (Some plan) = none_solved site valid (length site.markers) plan.marker

-- ---- what the rules request of an output of a panel

module _ (site : Site) (valid : IsValid site) (facts : ℕ → List Moment → Facts) (panel : ℕ) (before : List Moment) where
  requested_is : (output : ℕ) (plan : Output) → slice_get site.outputs output ≡ Some plan → plan.panel ≡ panel
      → is_requested site facts output before ≡ solution site (facts_at_effect facts panel before) plan.marker
  requested_is output plan at same =
      ap (λ p. made_latest false p Effect (λ b. is_true_over site output (facts p b)) before) (ap panel_of_plan at ∙ same)
      ∙ ap (λ none. made_latest none panel Effect (λ b. is_true_over site output (facts panel b)) before) (sym (none_true_over site valid output))
      ∙ made_of (is_true_over site output) no_facts panel Effect (facts panel) before
      ∙ ap (on_output (λ o. solution site (facts_at_effect facts panel before) o.marker)) at

  by_hand_is : (output : ℕ) (plan : Output) → slice_get site.outputs output ≡ Some plan → plan.panel ≡ panel
      → is_requested_by_hand site facts output before ≡ solution site (hand_facts (facts_at_effect facts panel before)) plan.marker
  by_hand_is output plan at same =
      ap (λ p. made_latest false p Effect (λ b. is_true_over site output (hand_facts (facts p b))) before) (ap panel_of_plan at ∙ same)
      ∙ ap (λ none. made_latest none panel Effect (λ b. is_true_over site output (hand_facts (facts panel b))) before)
      (sym (none_true_over site valid output))
      ∙ made_of (λ (f : Facts). is_true_over site output (hand_facts f)) no_facts panel Effect (facts panel) before
      ∙ ap (on_output (λ o. solution site (hand_facts (facts_at_effect facts panel before)) o.marker)) at

-- ---- outputs by their markers and by their places

module _ (site : Site) (valid : IsValid site) (panel : ℕ) (values test : ℕ → Bool)
    (agree : (output : ℕ) (plan : Output) → slice_get site.outputs output ≡ Some plan → plan.panel ≡ panel → values plan.marker ≡ test output) where
  asked_one : (number : ℕ) → list_any (asks panel values number) site.outputs ≡ on_place test (output_numbered site panel number)
  asked_one number = same_bool (list_any (asks panel values number) site.outputs) (on_place test (output_numbered site panel number)) there
      (back (output_numbered site panel number) refl)
    where
      there : list_any (asks panel values number) site.outputs ≡ true → on_place test (output_numbered site panel number) ≡ true
      there h =
          let found = at_any (asks panel values number) site.outputs h in
          let plan = found.item in
          let one = parts (plan.panel == panel) ((plan.number == number) && values plan.marker) found.passes in
          let two = parts (plan.number == number) (values plan.marker) one.1 in
          let placed : output_numbered site panel number ≡ Some found.place =
          position_unique (λ (o : Output). (o.panel == panel) && (o.number == number)) site.outputs found.place plan found.is
          (both (plan.panel == panel) (plan.number == number) one.0 two.0)
          (λ j o at t. (let g = parts (o.panel == panel) (o.number == number) t in
          same_output site valid j found.place o plan at found.is (eq_is o.panel panel g.0 ∙ sym (eq_is plan.panel panel one.0))
          (eq_is o.number number g.1 ∙ sym (eq_is plan.number number two.0)))) in
          ap (on_place test) placed ∙ sym (agree found.place plan found.is (eq_is plan.panel panel one.0)) ∙ two.1

      back : (o : Option ℕ) → output_numbered site panel number ≡ o → on_place test o ≡ true → list_any (asks panel values number) site.outputs ≡ true
      back None at h = cc
      back (Some output) at h =
          let found = position_got (λ (o : Output). (o.panel == panel) && (o.number == number)) site.outputs output at in
          let plan = found.item in
          let g = parts (plan.panel == panel) (plan.number == number) found.passes in
          any_at (asks panel values number) site.outputs output plan found.is
          (both (plan.panel == panel) ((plan.number == number) && values plan.marker) g.0
          (both (plan.number == number) (values plan.marker) g.1 (agree output plan found.is (eq_is plan.panel panel g.0) ∙ h)))

  asked_is : asked panel values site.outputs ≡ outputs_where site panel test
  unfolding outputs_where
  asked_is =
      mask_same 32 (λ bit. list_any (asks panel values (bit + 1)) site.outputs) (λ k. on_place test (output_numbered site panel (k + 1)))
      (λ k small. asked_one (k + 1))

-- ---- both solutions

solved_is : (site : Site) → IsValid site → HasNoCycle site → (facts : Facts) (masks : Masks) → AreFacts site facts masks → (values : ℕ → Bool)
    → IsSolution site masks values → (m : ℕ) → values m ≡ solution site facts m
solved_is site valid free facts masks are values solves m =
    no_other site facts values free (λ n. solves n ∙ equation_same site valid facts masks are values values (λ k. refl) n) m

requests_same : (a b c d : ℕ) → a ≡ c → b ≡ d
    → (let one : Requests = record { asked = a; manual = b } in one) ≡ (let other : Requests = record { asked = c; manual = d } in other)
requests_same a b c d p q = cc

pub requests_are : (site : Site) (facts : ℕ → List Moment → Facts) (panel : ℕ) (before : List Moment) (effects : Effects) → IsValid site
    → HasNoCycle site → HasEffects site facts panel before effects → effects.requests ≡ requests_at site facts panel before
requests_are site facts panel before effects valid free h =
    let now = facts_at_effect facts panel before in
    let masks = effects.facts in
    h.requests
    ∙ requests_same (asked panel (values_of effects.normal) site.outputs) (asked panel (values_of effects.manual) site.outputs)
    (outputs_where site panel (λ output. is_requested site facts output before))
    (outputs_where site panel (λ output. is_requested_by_hand site facts output before))
    (asked_is site valid panel (values_of effects.normal) (λ output. is_requested site facts output before)
    (λ output plan at same. solved_is site valid free now masks (facts_are site valid now masks h.masks) (values_of effects.normal) h.normal plan.marker
    ∙ sym (requested_is site valid facts panel before output plan at same)))
    (asked_is site valid panel (values_of effects.manual) (λ output. is_requested_by_hand site facts output before)
    (λ output plan at same. solved_is site valid free (hand_facts now) (hand_masks masks)
    (facts_are site valid (hand_facts now) (hand_masks masks) (hand_masks_are site now masks h.masks)) (values_of effects.manual) h.manual plan.marker
    ∙ sym (by_hand_is site valid facts panel before output plan at same)))

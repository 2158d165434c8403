-- An output that nothing excuses is due to be on where it is due to be asked.
use Rattle.std.proofs.Common.{◌≡◌, ◌↔◌, ◌⊎◌, ◌&&◌, ◌||◌, ℕ, Bool, true, false, List, length, Option, Some, None, refl, sym, ◌∙◌, ap, subst, rules}
use Rattle.std.specs.Prelude.{IsTrue, slice_get}
use Rattle.site_types.specs.declared.output.Output.{Output}
use Rattle.site_types.specs.declared.retained.Retained.{Retained}
use Rattle.site_types.specs.declared.site.Site.{Site}
use Rattle.site_types.specs.Done.{Done, OutputOff, in_force, silence_before}
use Rattle.panel_rules.specs.DueOutputs.{IsDueAskedByHand, IsDueThrough}
use Rattle.panel_rules.specs.Markers.{Facts}
use Rattle.panel_rules.specs.Moments.{Moment, TickBlock, moments, tick_of}
use Rattle.panel_rules.specs.Outputs.{is_quiet, is_sounder, panel_of_plan, silence_holds}
use Rattle.panel_rules.specs.Run.{facts_of}
use Rattle.run_text.proofs.TickTimes.{tick_moments}
use Rattle.audit_rules.specs.Breaches.{is_some, was_silenced}
use Rattle.excused_outputs.specs.Excused.{is_excused}
use Rattle.due_outputs.specs.DueOn.{IsDueUnexcused}

-- a panel that was not silenced is not quiet
quiet_silenced : (site : Site) (facts : ℕ → List Moment → Facts) (panel : ℕ) (before : List Moment) (sounder : Bool) (silence : Option ℕ)
    → (sounder && is_some silence) ≡ false → (sounder && silence_holds site facts panel before silence) ≡ false
quiet_silenced site facts panel before false silence h = refl
quiet_silenced site facts panel before true None h = refl
quiet_silenced site facts panel before true (Some tick) h = cc

neither : (a b : Bool) → (a || b) ≡ false → (a ≡ false) × (b ≡ false)
neither true b h = cc
neither false b h = (refl, h)

nor : (a b : Bool) → a ≡ false → b ≡ false → (a || b) ≡ false
nor true b p q = cc
nor false b p q = q

module _ (site : Site) (kept : Retained) (done : List Done) (ticks : List TickBlock) (place : ℕ) (output : Output) (at :
    slice_get site.outputs place ≡ Some output) where
  abbrev Asked : Type 0
  Asked = IsDueAskedByHand site kept done (moments ticks) place ⊎ IsDueThrough site kept done (moments ticks) place

  unexcused_due : is_excused site kept done (length ticks) output.panel place ≡ false → Asked
      → IsDueUnexcused site kept done (moments ticks) output.panel place
  unexcused_due none asked =
      let t = tick_moments ticks in
      let parts =
      neither (in_force site kept (OutputOff place) (length ticks) done) (is_sounder site place && was_silenced output.panel (length ticks) done) none in
      let quiet = subst (λ n. (is_sounder site place && was_silenced output.panel n done) ≡ false) (sym t) parts.1 in
      record {
        due = record {
          enabled = subst (λ n. in_force site kept (OutputOff place) n done ≡ false) (sym t) parts.0;
          heard =
              subst (λ p. (is_sounder site place && is_quiet site (facts_of site kept done) kept done p (moments ticks)) ≡ false)
              (sym (ap panel_of_plan at))
              (quiet_silenced site (facts_of site kept done) output.panel (moments ticks) (is_sounder site place)
              (silence_before output.panel (tick_of (moments ticks)) done) quiet);
          asked = asked;
        };
        unexcused = quiet;
      }

  unexcused_is : IsDueUnexcused site kept done (moments ticks) output.panel place → is_excused site kept done (length ticks) output.panel place ≡ false
  unexcused_is h =
      let t = tick_moments ticks in
      nor (in_force site kept (OutputOff place) (length ticks) done) (is_sounder site place && was_silenced output.panel (length ticks) done)
      (subst (λ n. in_force site kept (OutputOff place) n done ≡ false) t h.due.enabled)
      (subst (λ n. (is_sounder site place && was_silenced output.panel n done) ≡ false) t h.unexcused)

  pub excused_decides : (excused : Bool) → excused ≡ true → excused ≡ is_excused site kept done (length ticks) output.panel place
      → IsTrue false ↔ IsDueUnexcused site kept done (moments ticks) output.panel place
  excused_decides excused is same = (λ h. search rules, λ h. absurd (let n = unexcused_is h in let e : true ≡ false = sym is ∙ same ∙ n in cc))

  pub asked_decides : (excused asked : Bool) → excused ≡ false → excused ≡ is_excused site kept done (length ticks) output.panel place
      → IsTrue asked ↔ Asked → IsTrue asked ↔ IsDueUnexcused site kept done (moments ticks) output.panel place
  asked_decides excused asked is same tells = (λ h. unexcused_due (sym same ∙ is) (tells.0 h), λ h. tells.1 h.due.asked)

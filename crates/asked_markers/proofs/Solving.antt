-- The markers that are kept are those of the facts that the masks tell.
use Rattle.std.proofs.Common.{◌≡◌, ℕ, Bool, Some, refl, sym, ◌∙◌, ap}
use Rattle.std.proofs.Common.{◌-◌, ◌&&◌}
use Rattle.std.specs.Prelude.{nat_le, slice_get}
use Rattle.site_types.specs.declared.output.Output.{Output}
use Rattle.site_types.specs.declared.site.Site.{Site}
use Rattle.site_types.specs.Bits.{has_bit}
use Rattle.site_types.specs.Valid.{IsValid}
use Rattle.marker_table.specs.declared.facts.Facts.{Facts as Masks}
use Rattle.marker_table.specs.Equations.{values_of}
use Rattle.cause_effect.specs.Cycles.{HasNoCycle}
use Rattle.cause_effect.specs.Solutions.{IsSolution}
use Rattle.panel_rules.specs.Markers.{solution}
use Rattle.panel_rules.specs.Outputs.{is_true_over, on_output}
use Rattle.panel_rules.proofs.Bools.{both}
use Rattle.panel_rules.proofs.Floors.{le_to}
use Rattle.panel_laws.proofs.Solutions.{no_other}
use Rattle.panel_bridges.specs.FactMasks.{AreFacts}
use Rattle.panel_bridges.proofs.MaskEquations.{equation_same}
use Rattle.asked_markers.specs.declared.asked_markers.AskedMarkers.{AskedMarkers}
use Rattle.asked_markers.specs.FactsTold.{facts_told}
use Rattle.asked_markers.specs.Solved.{GoesBy}

-- masks are the facts that they tell
told_are : (site : Site) (masks : Masks) → AreFacts site (facts_told site masks) masks
told_are site masks = record {
  released = λ zone l. refl;
  by_hand = λ zone l. refl;
  faulty = λ panel p. sym (ap (λ b. b && has_bit masks.faults (panel - 1))
      (both (nat_le 1 panel) (nat_le panel site.panels) (le_to 1 panel p.0) (le_to panel site.panels p.1)));
}

solved_is : (site : Site) → IsValid site → HasNoCycle site → (masks : Masks) (values : ℕ → Bool) → IsSolution site masks values → (m : ℕ)
    → values m ≡ solution site (facts_told site masks) m
solved_is site valid free masks values solves m =
    no_other site (facts_told site masks) values free
    (λ n. solves n ∙ equation_same site valid (facts_told site masks) masks (told_are site masks) values values (λ k. refl) n) m

pub asks_as_told : (site : Site) (masks : Masks) (place : ℕ) (output : Output) (asked : AskedMarkers) → IsValid site → HasNoCycle site
    → slice_get site.outputs place ≡ Some output → GoesBy site masks asked
    → values_of asked.values output.marker ≡ is_true_over site place (facts_told site masks)
asks_as_told site masks place output asked valid free at goes =
    solved_is site valid free asked.facts (values_of asked.values) goes.solution output.marker
    ∙ ap (λ (m : Masks). solution site (facts_told site m) output.marker) goes.facts
    ∙ sym (ap (on_output (λ o. solution site (facts_told site masks) o.marker)) at)

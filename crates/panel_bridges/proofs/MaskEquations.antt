-- The equations of markers over masks and over facts that these are, and the facts that requests by hand go by.
use Rattle.std.proofs.Common.{◌≡◌, ◌-◌, ℕ, Bool, List, Option, Some, None, ap, refl, ◌∙◌}
use Rattle.std.specs.Prelude.{slice_get, All}
use Rattle.site_types.specs.declared.marker.Marker.{Marker as MarkerPlan}
use Rattle.site_types.specs.declared.site.Site.{Site}
use Rattle.site_types.specs.declared.term.Term.{Term}
use Rattle.site_types.specs.declared.term.Term.TheVariants.{Zone, Manual, Fault, Marker}
use Rattle.site_types.specs.Bits.{has_bit}
use Rattle.site_types.specs.Valid.{IsTerm, IsValid}
use Rattle.site_types.proofs.Masks.{has_bit-zero}
use Rattle.site_types.proofs.Places.{all_at}
use Rattle.marker_table.specs.declared.facts.Facts.{Facts as Masks}
use Rattle.marker_table.specs.Equations.{equation as equation_over, holds as holds_over, makes_true, zone_bit}
use Rattle.cause_effect.proofs.Truths.{met_same}
use Rattle.panel_rules.specs.Markers.{Facts, equation, hand_facts, holds}
use Rattle.panel_bridges.specs.FactMasks.{AreFacts}

module _ (site : Site) (rules : Facts) (masks : Masks) (are : AreFacts site rules masks) (v w : ℕ → Bool) (same : (m : ℕ) → v m ≡ w m) where
  holds_same : (term : Term) → IsTerm site term → holds_over site masks v term ≡ holds rules w term
  holds_same (Zone zone) is = are.released zone is
  holds_same (Manual zone) is = are.by_hand zone is
  holds_same (Fault panel) is = are.faulty panel is
  holds_same (Marker other) is = same other

  makes_same : (o : Option MarkerPlan) → ((marker : MarkerPlan) → o ≡ Some marker → All (IsTerm site) marker.terms)
      → makes_true site masks v o ≡ equation rules w o
  makes_same None terms = refl
  makes_same (Some marker) terms =
      met_same marker.combine (holds_over site masks v) (holds rules w) marker.terms
      (λ k term at. holds_same term (all_at (IsTerm site) marker.terms k term (terms marker refl) at))

pub equation_same : (site : Site) → IsValid site → (rules : Facts) (masks : Masks) → AreFacts site rules masks → (v w : ℕ → Bool)
    → ((m : ℕ) → v m ≡ w m) → (m : ℕ) →
    equation_over site masks v m ≡ equation rules w (slice_get site.markers m)
equation_same site valid rules masks are v w same m =
    makes_same site rules masks are v w same (slice_get site.markers m)
    (λ marker at. all_at (λ (marker : MarkerPlan). All (IsTerm site) marker.terms) site.markers m marker valid.references.terms at)

pub hand_facts_are : (site : Site) (rules : Facts) (masks hand : Masks) → hand.zones ≡ masks.manual → hand.manual ≡ masks.manual → hand.faults ≡ 0
    → AreFacts site rules masks → AreFacts site (hand_facts rules) hand
hand_facts_are site rules masks hand zones manual faults are = record {
  released = λ zone within. ap (λ (xs : List ℕ). zone_bit xs (slice_get site.zones zone)) zones ∙ are.by_hand zone within;
  by_hand = λ zone within. ap (λ (xs : List ℕ). zone_bit xs (slice_get site.zones zone)) manual ∙ are.by_hand zone within;
  faulty = λ panel is. ap (λ (mask : ℕ). has_bit mask (panel - 1)) faults ∙ has_bit-zero (panel - 1);
}

-- The markers that depend on a changed bit of masks are those that depend on a changed fact, so there are as many.
use Rattle.std.proofs.Common.{◌≡◌, ℕ, Bool, Option, Some, None, slice_get, refl, sym, ◌∙◌, ap, subst}
use Rattle.std.specs.Prelude.{All}
use Rattle.std.specs.List.{list_any}
use Rattle.site_types.specs.declared.combine.Combine.TheVariants.{Any}
use Rattle.site_types.specs.declared.marker.Marker.{Marker as MarkerPlan}
use Rattle.site_types.specs.declared.site.Site.{Site}
use Rattle.site_types.specs.declared.term.Term.{Term}
use Rattle.site_types.specs.declared.term.Term.TheVariants.{Zone, Manual, Fault, Marker}
use Rattle.site_types.specs.Valid.{IsTerm, IsValid}
use Rattle.site_types.proofs.Places.{all_at}
use Rattle.marker_table.specs.declared.facts.Facts.{Facts as Masks}
use Rattle.cause_effect.specs.Changes.{DependsOnChanged, directly, through, IsNumberOf, RoseByNumberOf, differ, has_changed, is_changed}
use Rattle.cause_effect.specs.Cycles.{terms_of}
use Rattle.cause_effect.proofs.Changing.{AreEqual, rose_by_none}
use Rattle.cause_effect.proofs.Truths.{met_same}
use Rattle.panel_rules.specs.Markers.{Facts, hand_facts}
use Rattle.panel_bridges.specs.FactMasks.{AreFacts}
use Rattle.panel_effects.specs.Masks.{AreMasksOf, hand_masks}
use Rattle.panel_effects.specs.ChangedFacts.{DependsOnChangedFact, at_once, by_marker, RoseByFacts, RoseByMasks, has_changed_fact, is_changed_fact}
use Rattle.panel_effects.proofs.FactsAsMasks.{equal_hands, facts_are, hand_masks_are}

differ_same : (a b c d : Bool) → a ≡ c → b ≡ d → differ a b ≡ differ c d
differ_same a b c d p q = ap (λ x. differ x b) p ∙ ap (differ c) q

module _ (site : Site) (valid : IsValid site) (earlier later : Facts) (before after : Masks) (were : AreFacts site earlier before) (are : AreFacts site later after) where
  term_same : (term : Term) → IsTerm site term → is_changed site before after term ≡ is_changed_fact earlier later term
  term_same (Zone zone) is = differ_same _ _ _ _ (were.released zone is) (are.released zone is)
  term_same (Manual zone) is = differ_same _ _ _ _ (were.by_hand zone is) (are.by_hand zone is)
  term_same (Fault panel) is = differ_same _ _ _ _ (were.faulty panel is) (are.faulty panel is)
  term_same (Marker other) is = refl

  terms_same : (marker : Option MarkerPlan) → ((plan : MarkerPlan) → marker ≡ Some plan → All (IsTerm site) plan.terms)
      → list_any (is_changed site before after) (terms_of marker) ≡ list_any (is_changed_fact earlier later) (terms_of marker)
  terms_same None terms = refl
  terms_same (Some plan) terms =
      met_same Any (is_changed site before after) (is_changed_fact earlier later) plan.terms
      (λ k term at. term_same term (all_at (IsTerm site) plan.terms k term (terms plan refl) at))

  changed_same : (m : ℕ) → has_changed site before after m ≡ has_changed_fact site earlier later m
  changed_same m =
      terms_same (slice_get site.markers m)
      (λ plan at. all_at (λ (plan : MarkerPlan). All (IsTerm site) plan.terms) site.markers m plan valid.references.terms at)

  by_fact : (m : ℕ) → DependsOnChanged site before after m → DependsOnChangedFact site earlier later m
  by_fact m (directly n h) = at_once n (sym (changed_same n) ∙ h)
  by_fact m (through n next term h) = by_marker n next term (by_fact next h)

  by_mask : (m : ℕ) → DependsOnChangedFact site earlier later m → DependsOnChanged site before after m
  by_mask m (at_once n h) = directly n (changed_same n ∙ h)
  by_mask m (by_marker n next term h) = through n next term (by_mask next h)

  number_same : (count : ℕ) → IsNumberOf (DependsOnChanged site before after) count → IsNumberOf (DependsOnChangedFact site earlier later) count
  number_same count w = record {
    members = w.members;
    once = w.once;
    all = λ m h. w.all m (by_mask m h);
    only = λ m h. by_fact m (w.only m h);
    counted = w.counted;
  }

  rose_same : (steps more : ℕ) → RoseByNumberOf (DependsOnChanged site before after) steps more
      → RoseByNumberOf (DependsOnChangedFact site earlier later) steps more
  rose_same steps more w = (w.0, w.1, number_same w.0 w.2)

-- steps that rose by masks rose by the facts that these are
pub rose_by_facts : (site : Site) → IsValid site → (earlier later : Facts) (before after : Masks) (steps more : ℕ)
    → AreMasksOf site earlier before → AreMasksOf site later after
    → RoseByMasks site before after steps more → RoseByFacts site earlier later steps more
rose_by_facts site valid earlier later before after steps more were are rose = record {
  between = rose.between;
  first =
      rose_same site valid earlier later before after (facts_are site valid earlier before were) (facts_are site valid later after are) steps
      rose.between rose.first;
  second =
      rose_same site valid (hand_facts earlier) (hand_facts later) (hand_masks before) (hand_masks after)
      (facts_are site valid (hand_facts earlier) (hand_masks before) (hand_masks_are site earlier before were))
      (facts_are site valid (hand_facts later) (hand_masks after) (hand_masks_are site later after are)) rose.between more rose.second;
}

-- where nothing changed, no step was made
pub no_step : (site : Site) (before after : Masks) (steps : ℕ) → AreEqual before after → RoseByMasks site before after steps steps
no_step site before after steps same = record {
  between = steps;
  first = rose_by_none site before after steps same;
  second = rose_by_none site (hand_masks before) (hand_masks after) steps (equal_hands before after same);
}

-- steps that were made over the masks, and then over those of what counts by hand
pub rose_both : (site : Site) (before after hand_before hand : Masks) (start between end : ℕ) → hand_before ≡ hand_masks before
    → hand ≡ hand_masks after → RoseByNumberOf (DependsOnChanged site before after) start between
    → RoseByNumberOf (DependsOnChanged site hand_before hand) between end → RoseByMasks site before after start end
rose_both site before after hand_before hand start between end earlier later first second = record {
  between = between;
  first = first;
  second =
      subst (λ (x : Masks). RoseByNumberOf (DependsOnChanged site x (hand_masks after)) between end) earlier
      (subst (λ (y : Masks). RoseByNumberOf (DependsOnChanged site hand_before y) between end) later second);
}

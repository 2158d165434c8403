-- What is kept after a turn of Effect.
use Rattle.std.proofs.Common.{◌≡◌, ℕ, Bool, List, ◌∷◌, sym, subst}
use Rattle.tick_units.specs.declared.task.Task.TheVariants.{Effect}
use Rattle.site_types.specs.declared.site.Site.{Site}
use Rattle.marker_table.specs.declared.facts.Facts.{Facts as Masks}
use Rattle.marker_table.specs.Equations.{values_of}
use Rattle.cause_effect.specs.Requests.{requests_of}
use Rattle.cause_effect.specs.Solutions.{IsSolution}
use Rattle.cause_effect.proofs.Changing.{AreEqual}
use Rattle.panel_rules.specs.Markers.{Facts}
use Rattle.panel_rules.specs.Moments.{Moment, Turned}
use Rattle.panel_effects.specs.Masks.{AreMasksOf, hand_masks}
use Rattle.panel_effects.specs.Stands.{HasEffects}
use Rattle.panel_effects.specs.declared.effects.Effects.{Effects}
use Rattle.panel_effects.proofs.FactsAsMasks.{equal_masks}
use Rattle.panel_effects.proofs.LatestFacts.{facts_now}

module _ (site : Site) (facts : ℕ → List Moment → Facts) (panel : ℕ) (before : List Moment) where
  -- over facts of its own
  pub after_turn : (effects : Effects) → AreMasksOf site (facts panel before) effects.facts → IsSolution site effects.facts (values_of effects.normal)
      → IsSolution site (hand_masks effects.facts) (values_of effects.manual)
      → effects.requests ≡ requests_of site panel (values_of effects.normal) (values_of effects.manual)
      → HasEffects site facts panel (Turned panel Effect ∷ before) effects
  after_turn effects masks normal manual requests = record {
    masks = subst (λ (f : Facts). AreMasksOf site f effects.facts) (sym (facts_now facts panel before)) masks;
    normal = normal;
    manual = manual;
    requests = requests;
  }

  -- over facts that equal those of the turn before
  pub after_same : (effects : Effects) (masks : Masks) → AreEqual effects.facts masks → HasEffects site facts panel before effects
      → AreMasksOf site (facts panel before) masks → HasEffects site facts panel (Turned panel Effect ∷ before) effects
  after_same effects masks same h are =
      after_turn effects (equal_masks site (facts panel before) masks effects.facts same are) h.normal h.manual h.requests

-- a solution that goes on over what counts by hand
pub hand_solved : (site : Site) (before after hand_before hand : Masks) (values more : ℕ → Bool) → hand_before ≡ hand_masks before
    → hand ≡ hand_masks after → (IsSolution site hand_before values → IsSolution site hand more)
    → IsSolution site (hand_masks before) values → IsSolution site (hand_masks after) more
hand_solved site before after hand_before hand values more earlier later goes_on solves =
    subst (λ (x : Masks). IsSolution site x more) later (goes_on (subst (λ (x : Masks). IsSolution site x values) (sym earlier) solves))

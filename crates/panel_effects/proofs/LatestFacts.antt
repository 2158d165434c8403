-- The facts of the latest turn of Effect: which moments leave them, and what the rules make of them.
use Rattle.std.proofs.Common.{◌≡◌, ℕ, List, [], ◌∷◌, inl, inr, true, false, if◌then◌else◌, refl, sym, ap, subst}
use Rattle.tick_units.specs.declared.task.Task.{Task}
use Rattle.tick_units.specs.declared.task.Task.TheVariants.{Effect}
use Rattle.site_types.specs.declared.site.Site.{Site}
use Rattle.panel_rules.specs.Moments.{Moment, Began, Happened, Turned, Kept, is_turn}
use Rattle.panel_rules.specs.Latest.{made_latest}
use Rattle.panel_rules.specs.Markers.{Facts}
use Rattle.panel_rules.specs.Outputs.{released_at_effect}
use Rattle.panel_rules.proofs.Turns.{own_turn, turn_tells}
use Rattle.panel_effects.specs.Masks.{AreMasksOf, no_facts}
use Rattle.panel_effects.specs.Stands.{HasEffects, facts_at_effect}
use Rattle.panel_effects.specs.declared.effects.Effects.{Effects}

-- something made of what the latest turn made is what the latest turn makes of it
pub made_of : {X Y : Type 0} (f : X → Y) (none : X) (panel : ℕ) (task : Task) (makes : List Moment → X) (moments : List Moment)
    → made_latest (f none) panel task (λ before. f (makes before)) moments ≡ f (made_latest none panel task makes moments)
made_of f none panel task makes [] = refl
made_of f none panel task makes (Began ∷ before) = made_of f none panel task makes before
made_of f none panel task makes (Happened event ∷ before) = made_of f none panel task makes before
made_of f none panel task makes (Turned other_panel other ∷ before) =
    elim (is_turn panel task other_panel other) as (λ t. (if t then f (makes before) else made_latest (f none) panel task (λ b. f (makes b)) before)
    ≡ f (if t then makes before else made_latest none panel task makes before)) [
      | true ↦ refl
      | false ↦ made_of f none panel task makes before
    ]
made_of f none panel task makes (Kept failed ∷ before) = made_of f none panel task makes before

turned_same : (a b : ℕ) (s t : Task) → a ≡ b → s ≡ t → Turned a s ≡ Turned b t
turned_same a b s t p q = cc

module _ (facts : ℕ → List Moment → Facts) (panel : ℕ) (before : List Moment) where
  -- a turn of Effect of the panel goes by facts of its own
  pub facts_now : facts_at_effect facts panel (Turned panel Effect ∷ before) ≡ facts panel before
  facts_now = ap (λ t. if t then facts panel before else facts_at_effect facts panel before) (own_turn panel Effect)

  -- each other moment leaves those of the latest one
  pub facts_stay : (moment : Moment) → (moment ≡ Turned panel Effect → ⊥)
      → facts_at_effect facts panel (moment ∷ before) ≡ facts_at_effect facts panel before
  facts_stay Began other = refl
  facts_stay (Happened event) other = refl
  facts_stay (Turned other_panel task) other =
      elim (turn_tells panel Effect other_panel task) [
        | inl t ↦ absurd (other (turned_same other_panel panel task Effect t.panel_is t.task_is))
        | inr t ↦ ap (λ b. if b then facts panel before else facts_at_effect facts panel before) t
      ]
  facts_stay (Kept failed) other = refl

-- what is kept of the latest turn of Effect goes by the facts of that turn alone
pub effects_by_facts : (site : Site) (facts others : ℕ → List Moment → Facts) (panel : ℕ) (before after : List Moment) (effects : Effects)
    → facts_at_effect others panel after ≡ facts_at_effect facts panel before → HasEffects site facts panel before effects
    → HasEffects site others panel after effects
effects_by_facts site facts others panel before after effects same h = record {
  masks = subst (λ (f : Facts). AreMasksOf site f effects.facts) (sym same) h.masks;
  normal = h.normal;
  manual = h.manual;
  requests = h.requests;
}

-- so each moment that isn't a turn of Effect of the panel leaves it
pub effects_stay : (site : Site) (facts : ℕ → List Moment → Facts) (panel : ℕ) (before : List Moment) (effects : Effects) (moment : Moment)
    → (moment ≡ Turned panel Effect → ⊥) → HasEffects site facts panel before effects → HasEffects site facts panel (moment ∷ before) effects
effects_stay site facts panel before effects moment other h =
    effects_by_facts site facts facts panel before (moment ∷ before) effects (facts_stay facts panel before moment other) h

-- the zones that were released for the latest turn are those of its facts
pub released_is : (site : Site) (facts : ℕ → List Moment → Facts) (panel : ℕ) (before : List Moment)
    → released_at_effect site facts panel before ≡ (facts_at_effect facts panel before).released
released_is site facts panel before = made_of (λ (f : Facts). f.released) no_facts panel Effect (facts panel) before

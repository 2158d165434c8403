-- What is kept of the latest turn of Effect of a panel.
use Rattle.std.specs.Prelude.{◌≡◌, ℕ, List}
use Rattle.tick_units.specs.declared.task.Task.TheVariants.{Effect}
use Rattle.site_types.specs.declared.site.Site.{Site}
use Rattle.marker_table.specs.Equations.{values_of}
use Rattle.cause_effect.specs.Requests.{requests_of}
use Rattle.cause_effect.specs.Solutions.{IsSolution}
use Rattle.panel_rules.specs.Latest.{made_latest}
use Rattle.panel_rules.specs.Markers.{Facts}
use Rattle.panel_rules.specs.Moments.{Moment}
use Rattle.panel_effects.specs.Masks.{AreMasksOf, hand_masks, no_facts}
use Rattle.panel_effects.specs.declared.effects.Effects.{Effects}

-- the facts that the latest turn of Effect of a panel went by; before its first one no fact is true. What facts a
-- turn goes by is told by the panel and by what had befallen before
abbrev pub facts_at_effect : (ℕ → List Moment → Facts) → ℕ → List Moment → Facts
facts_at_effect facts panel before = made_latest no_facts panel Effect (facts panel) before

-- the facts of that turn, a solution over them and one over what counts by hand, and what these ask for
pub record HasEffects (site : Site) (facts : ℕ → List Moment → Facts) (panel : ℕ) (before : List Moment)
    (effects : Effects) : Type 0 where
  pub masks : AreMasksOf site (facts_at_effect facts panel before) effects.facts
  pub normal : IsSolution site effects.facts (values_of effects.normal)
  pub manual : IsSolution site (hand_masks effects.facts) (values_of effects.manual)
  pub requests :
      effects.requests ≡ requests_of site panel (values_of effects.normal) (values_of effects.manual)

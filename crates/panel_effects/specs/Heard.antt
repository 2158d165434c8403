-- The facts of a turn of Effect, read from the words that its panel keeps, and a turn that goes by them.
use Rattle.std.specs.Prelude.{ℕ, List, ◌∷◌}
use Rattle.tick_units.specs.declared.task.Task.TheVariants.{Effect}
use Rattle.site_types.specs.declared.retained.Retained.{Retained}
use Rattle.site_types.specs.declared.site.Site.{Site}
use Rattle.site_types.specs.Done.{Done}
use Rattle.site_types.specs.Valid.{IsValid}
use Rattle.marker_table.specs.declared.facts.Facts.{Facts as Masks}
use Rattle.panel_links.specs.declared.ring.Ring.{Ring}
use Rattle.panel_links.specs.Stands.{StandsFor}
use Rattle.cause_effect.specs.declared.plan.Plan.{Plan}
use Rattle.cause_effect.specs.Stands.{IsPlanOf}
use Rattle.panel_rules.specs.Moments.{Moment, Turned}
use Rattle.panel_rules.specs.Run.{facts_of, tells_fault}
use Rattle.panel_rules.specs.Words.{ring_calls}
use Rattle.panel_effects.specs.Masks.{AreMasksOf}
use Rattle.panel_effects.specs.ChangedFacts.{RoseByFacts}
use Rattle.panel_effects.specs.Stands.{HasEffects, facts_at_effect}
use Rattle.panel_effects.specs.declared.effects.Effects.{Effects}

-- masks are the facts of a turn of Effect of a panel made now, for whatever run of a valid site the ring stands
abbrev pub TellsFacts : Ring → ℕ → Masks → Type 0
TellsFacts ring panel masks =
    (site : Site) (kept : Retained) (done : List Done) (before : List Moment) → IsValid site
    → StandsFor site.panels (ring_calls site kept done (tells_fault site kept done) before) ring
    → AreMasksOf site (facts_of site kept done panel before) masks

-- a turn was made by the words, for whatever run of a valid site the ring stands
abbrev pub TurnsByWords : Plan → Ring → ℕ → Effects → Effects → Type 0
TurnsByWords plan ring panel old effects =
    (site : Site) (kept : Retained) (done : List Done) (before : List Moment) → IsPlanOf site plan
    → StandsFor site.panels (ring_calls site kept done (tells_fault site kept done) before) ring
    → HasEffects site (facts_of site kept done) panel before old
    → HasEffects site (facts_of site kept done) panel (Turned panel Effect ∷ before) effects

-- the steps of a turn made by the words, by the facts of the panel's turn before and of this one
abbrev pub RisesByWords : Plan → Ring → ℕ → Effects → ℕ → ℕ → Type 0
RisesByWords plan ring panel old earlier later =
    (site : Site) (kept : Retained) (done : List Done) (before : List Moment) → IsPlanOf site plan
    → StandsFor site.panels (ring_calls site kept done (tells_fault site kept done) before) ring
    → HasEffects site (facts_of site kept done) panel before old
    → RoseByFacts site (facts_at_effect (facts_of site kept done) panel before)
    (facts_of site kept done panel before) earlier later

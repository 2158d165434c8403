-- What a turn of Effect makes of what is kept of the one before, and what it then tells, whatever it stood for.
use Rattle.std.specs.Prelude.{◌≡◌, ℕ, List, [], ◌∷◌}
use Rattle.tick_units.specs.declared.task.Task.TheVariants.{Effect}
use Rattle.site_types.specs.declared.requests.Requests.{Requests}
use Rattle.site_types.specs.declared.site.Site.{Site}
use Rattle.site_types.specs.Valid.{IsValid}
use Rattle.marker_table.specs.declared.facts.Facts.{Facts as Masks}
use Rattle.cause_effect.specs.declared.plan.Plan.{Plan}
use Rattle.cause_effect.specs.Cycles.{HasNoCycle}
use Rattle.cause_effect.specs.Stands.{IsPlanOf}
use Rattle.panel_rules.specs.Markers.{Facts}
use Rattle.panel_rules.specs.Moments.{Moment, Turned}
use Rattle.panel_rules.specs.Outputs.{released_at_effect}
use Rattle.output_calls.specs.DelayCalls.{requests_at}
use Rattle.output_calls.specs.SilenceCalls.{zone_masks}
use Rattle.panel_effects.specs.Masks.{AreMasksOf}
use Rattle.panel_effects.specs.ChangedFacts.{RoseByFacts, RoseByMasks}
use Rattle.panel_effects.specs.Stands.{HasEffects, facts_at_effect}
use Rattle.panel_effects.specs.declared.effects.Effects.{Effects}

-- nothing has befallen, for whatever site the plan is of
abbrev pub HasNoTurn : ℕ → Plan → Effects → Type 0
HasNoTurn panel plan effects =
    (site : Site) (facts : ℕ → List Moment → Facts) → IsPlanOf site plan → HasEffects site facts panel [] effects

-- a turn was made over masks that are the facts of a turn made now
abbrev pub MakesEffectTurn : Plan → ℕ → Masks → Effects → Effects → Type 0
MakesEffectTurn plan panel masks old effects =
    (site : Site) (facts : ℕ → List Moment → Facts) (before : List Moment) → IsPlanOf site plan
    → HasEffects site facts panel before old → AreMasksOf site (facts panel before) masks
    → HasEffects site facts panel (Turned panel Effect ∷ before) effects

-- the steps of a turn, by the masks of the turn before and those of this one
abbrev pub RisesByChanges : Plan → Masks → Effects → ℕ → ℕ → Type 0
RisesByChanges plan masks old earlier later =
    (site : Site) → IsPlanOf site plan → RoseByMasks site old.facts masks earlier later

-- the steps of a turn made now, by the facts of the run: those of the panel's turn before, where no fact is true
-- before its first one, and those of this one
abbrev pub RisesByFactsOfRun : Plan → ℕ → Masks → Effects → ℕ → ℕ → Type 0
RisesByFactsOfRun plan panel masks old earlier later =
    (site : Site) (facts : ℕ → List Moment → Facts) (before : List Moment) → IsPlanOf site plan
    → HasEffects site facts panel before old → AreMasksOf site (facts panel before) masks
    → RoseByFacts site (facts_at_effect facts panel before) (facts panel before) earlier later

-- what is asked for is what the rules ask of the panel's outputs, where no marker of the site depends on itself
abbrev pub AsksAsRuled : Effects → Requests → Type 0
AsksAsRuled effects requests =
    (site : Site) (facts : ℕ → List Moment → Facts) (panel : ℕ) (before : List Moment) → IsValid site
    → HasNoCycle site → HasEffects site facts panel before effects
    → requests ≡ requests_at site facts panel before

-- the zones are those that by the rules were released for the latest turn
abbrev pub ReleasesAsRuled : Effects → List ℕ → Type 0
ReleasesAsRuled effects released =
    (site : Site) (facts : ℕ → List Moment → Facts) (panel : ℕ) (before : List Moment)
    → HasEffects site facts panel before effects
    → released ≡ zone_masks site (released_at_effect site facts panel before)

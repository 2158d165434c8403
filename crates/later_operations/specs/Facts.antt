-- The facts of the Effect turns of a run stay as more is done.
use Rattle.std.specs.Prelude.{ℕ}
use Rattle.tick_units.specs.declared.task.Task.TheVariants.{Effect}
use Rattle.site_types.specs.declared.retained.Retained.{Retained}
use Rattle.site_types.specs.declared.site.Site.{Site}
use Rattle.panel_rules.specs.Latest.{made_latest}
use Rattle.panel_rules.specs.Markers.{Facts}
use Rattle.panel_rules.specs.Outputs.{released_at_effect}
use Rattle.panel_rules.specs.Run.{facts_of}
use Rattle.later_operations.specs.Later.{StaysAsMoreIsDone}

-- the facts of an Effect turn made now stay as more is done
abbrev pub FactsStay : Type 0
FactsStay = (site : Site) (kept : Retained) (panel : ℕ)
    → StaysAsMoreIsDone (λ done moments. facts_of site kept done panel moments)

-- the facts of the latest Effect turn, or before the first one what is given, stay as more is done
abbrev pub LatestFactsStay : Type 0
LatestFactsStay =
    (site : Site) (kept : Retained) (none : Facts) (panel : ℕ)
    → StaysAsMoreIsDone (λ done moments. made_latest none panel Effect (facts_of site kept done panel) moments)

-- the zones that were released for the latest Effect turn of a panel stay as more is done
abbrev pub ReleasedStays : Type 0
ReleasedStays = (site : Site) (kept : Retained) (panel : ℕ)
    → StaysAsMoreIsDone (λ done moments. released_at_effect site (facts_of site kept done) panel moments)

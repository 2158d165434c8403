-- What follows for markers: what is called the solution is one, and there is no other.
use Rattle.std.specs.Prelude.{◌≡◌, ℕ, Bool}
use Rattle.site_types.specs.declared.site.Site.{Site}
use Rattle.cause_effect.specs.Cycles.{HasNoCycle}
use Rattle.panel_rules.specs.Markers.{Facts, IsSolution, solution}

-- where no marker depends on itself, the solution satisfies the equation of each marker
abbrev pub SolutionSolves : Type 0
SolutionSolves = (site : Site) (facts : Facts) → HasNoCycle site → IsSolution site facts (solution site facts)

-- where no marker depends on itself, all values that satisfy the equation of each marker are those of the solution
abbrev pub OneSolution : Type 0
OneSolution = (site : Site) (facts : Facts) (values : ℕ → Bool) → HasNoCycle site
    → IsSolution site facts values → (marker : ℕ) → values marker ≡ solution site facts marker

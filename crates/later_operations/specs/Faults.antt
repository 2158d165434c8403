-- The faults of a run stay as more is done.
use Rattle.std.specs.Prelude.{ℕ, Bool}
use Rattle.site_types.specs.declared.retained.Retained.{Retained}
use Rattle.site_types.specs.declared.site.Site.{Site}
use Rattle.panel_rules.specs.Faults.{outside_at}
use Rattle.panel_rules.specs.Run.{facts_of, faults_of}
use Rattle.later_operations.specs.Later.{StaysAsMoreIsDone}

-- the faults of a panel at its latest turn of Hold stay as more is done
abbrev pub FaultsStay : Type 0
FaultsStay = (site : Site) (kept : Retained) (panel : ℕ)
    → StaysAsMoreIsDone (λ done moments. faults_of site kept done panel moments)

-- what stands at a panel besides missing points stays as more is done, whatever stamps were heard and whatever links
-- are up
abbrev pub OutsideStays : Type 0
OutsideStays =
    (site : Site) (kept : Retained) (stamps : ℕ → ℕ) (up : ℕ → Bool) (panel : ℕ)
    → StaysAsMoreIsDone
    (λ done moments. outside_at site (facts_of site kept done) kept done stamps up panel moments)

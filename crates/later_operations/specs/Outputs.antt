-- The outputs of a run stay as more is done.
use Rattle.std.specs.Prelude.{ℕ}
use Rattle.site_types.specs.declared.retained.Retained.{Retained}
use Rattle.site_types.specs.declared.site.Site.{Site}
use Rattle.panel_rules.specs.Faults.{is_unconfirmed}
use Rattle.panel_rules.specs.Outputs.{is_confirmed_out, is_on, on_run}
use Rattle.panel_rules.specs.Run.{facts_of}
use Rattle.later_operations.specs.Later.{StaysAsMoreIsDone}

-- which are on, the ticks in which they were on, which are confirmed and which are unconfirmed
pub record OutputsStay : Type 0 where
  pub on : (site : Site) (kept : Retained) (output : ℕ)
      → StaysAsMoreIsDone (λ done moments. is_on site (facts_of site kept done) kept done output moments)
  pub on_runs : (site : Site) (kept : Retained) (output : ℕ)
      → StaysAsMoreIsDone (λ done moments. on_run site (facts_of site kept done) kept done output moments)
  pub confirmed : (site : Site) (kept : Retained) (output : ℕ)
      → StaysAsMoreIsDone
      (λ done moments. is_confirmed_out site (facts_of site kept done) kept done output moments)
  pub unconfirmed : (site : Site) (kept : Retained) (output : ℕ)
      → StaysAsMoreIsDone (λ done moments. is_unconfirmed site (facts_of site kept done) kept done output moments)

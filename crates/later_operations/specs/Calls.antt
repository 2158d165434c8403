-- What a run tells the parts that drive outputs stays as more is done.
use Rattle.std.specs.Prelude.{ℕ}
use Rattle.site_types.specs.declared.retained.Retained.{Retained}
use Rattle.site_types.specs.declared.site.Site.{Site}
use Rattle.panel_rules.specs.Run.{facts_of}
use Rattle.output_calls.specs.DelayCalls.{delay_calls, requests_at}
use Rattle.output_calls.specs.RoutingCalls.{routing_calls}
use Rattle.output_calls.specs.SilenceCalls.{silence_calls}
use Rattle.later_operations.specs.Later.{StaysAsMoreIsDone}

-- what a turn of Drive made now is asked for, and what befell Routing, the delays and the silence of a panel
pub record CallsStay : Type 0 where
  pub requests : (site : Site) (kept : Retained) (panel : ℕ)
      → StaysAsMoreIsDone (λ done moments. requests_at site (facts_of site kept done) panel moments)
  pub routing : (site : Site) (kept : Retained) (panel : ℕ)
      → StaysAsMoreIsDone (λ done moments. routing_calls site (facts_of site kept done) kept done panel moments)
  pub delays : (site : Site) (kept : Retained) (panel : ℕ)
      → StaysAsMoreIsDone (λ done moments. delay_calls site (facts_of site kept done) done panel moments)
  pub silence : (site : Site) (kept : Retained) (panel : ℕ)
      → StaysAsMoreIsDone (λ done moments. silence_calls site (facts_of site kept done) done panel moments)

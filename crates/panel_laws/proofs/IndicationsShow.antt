-- A face shows an output that its panel's words have asked for.
use Rattle.std.proofs.Common.{◌∙◌}
use Rattle.panel_rules.specs.Outputs.{is_on}
use Rattle.panel_rules.specs.Run.{facts_of}
use Rattle.panel_laws.specs.ShownOutputs.{IndicatedOutputIsShown}
use Rattle.panel_laws.proofs.FacesShow.{output_bit}
use Rattle.panel_laws.proofs.OutputsOn.{indicated_on}

pub indicated_shown : IndicatedOutputIsShown
indicated_shown site kept done stored m output plan after is indicated =
    output_bit site after.valid output plan is (λ o. is_on site (facts_of site kept done) kept done o m) ∙ indicated_on site kept done m output
    after.valid after.run after.ended indicated

-- An output is shown on after the indication of what asks for it.
use Rattle.std.specs.Prelude.{◌≡◌, ℕ, true, List, Some, slice_get}
use Rattle.site_types.specs.declared.output.Output.{Output}
use Rattle.site_types.specs.declared.retained.Retained.{Retained}
use Rattle.site_types.specs.declared.site.Site.{Site}
use Rattle.site_types.specs.Done.{Done}
use Rattle.panel_rules.specs.Moments.{Moment}
use Rattle.panel_laws.specs.OutputDeadlines.{IsIndicated}
use Rattle.panel_rules.specs.Faces.{face_with}
use Rattle.panel_laws.specs.FaceLaws.{HasEnded, shows_output}

-- an output without a delay is shown on in the face of its panel, where each word of that panel has asked for
-- it through the profile's ticks of the output
abbrev pub IndicatedOutputIsShown : Type 0
IndicatedOutputIsShown =
    (site : Site) (kept : Retained) (done : List Done) (stored : Retained) (moments : List Moment) (output :
    ℕ)
    (plan : Output) → HasEnded site moments → slice_get site.outputs output ≡ Some plan
    → IsIndicated site kept done moments output
    → shows_output (face_with site kept done stored plan.panel moments) plan ≡ true

-- What is kept of the outputs of a panel over a run.
use Rattle.std.specs.Prelude.{◌≡◌, ◌-◌, not, ℕ, List}
use Rattle.site_types.specs.declared.retained.Retained.{Retained}
use Rattle.site_types.specs.declared.site.Site.{Site}
use Rattle.site_types.specs.Bits.{has_bit}
use Rattle.site_types.specs.Done.{Done}
use Rattle.site_types.specs.Profile.{routing_of}
use Rattle.sounder_control.specs.Stands.{StandsFor as SilenceStands}
use Rattle.output_delays.specs.Stands.{StandsFor as DelaysStand}
use Rattle.routing_outputs.specs.Stands.{StandsFor as RoutingStands}
use Rattle.panel_rules.specs.Moments.{Moment}
use Rattle.panel_rules.specs.Markers.{Facts}
use Rattle.panel_rules.specs.Outputs.{is_on, is_sounder, outputs_where}
use Rattle.output_calls.specs.DelayCalls.{delay_calls}
use Rattle.output_calls.specs.RoutingCalls.{routing_calls}
use Rattle.output_calls.specs.SilenceCalls.{silence_calls}
use Rattle.output_drive.specs.declared.drive.Drive.{Drive}

-- what drives the outputs of a panel of a site stands for the moments so far, with the facts that its Effect
-- turns solved the markers over, what was kept and what was done: each part for the calls that these tell it,
-- and it keeps the outputs that are on
pub record DrivesFor (site : Site) (facts : ℕ → List Moment → Facts) (kept : Retained) (done : List Done)
    (panel : ℕ) (before : List Moment) (drive : Drive) : Type 0 where
  pub silence : SilenceStands (silence_calls site facts done panel before) drive.silence
  pub delays :
      DelaysStand site panel (not (has_bit kept.delays_off (panel - 1))) (delay_calls site facts done panel before)
      drive.delays
  pub routing :
      RoutingStands site panel (routing_of site.format) (routing_calls site facts kept done panel before)
      drive.routing
  pub on : drive.on ≡ outputs_where site panel (λ output. is_on site facts kept done output before)
  pub sounders : drive.sounders ≡ outputs_where site panel (is_sounder site)

-- What follows for outputs in each run of a valid site, whatever the order of turns: what is due is on, and
-- what is on is caused.
use Rattle.std.specs.Prelude.{◌≡◌, ◌<◌, ◌≤◌, ◌+◌, ◌==◌, ◌&&◌, ℕ, true, false, List, ◌∷◌, Some, slice_get}
use Rattle.tick_units.specs.declared.task.Task.TheVariants.{Hold}
use Rattle.site_types.specs.declared.output.Output.{Output}
use Rattle.site_types.specs.declared.retained.Retained.{Retained}
use Rattle.site_types.specs.declared.site.Site.{Site}
use Rattle.site_types.specs.Done.{Done, OutputOff, in_force}
use Rattle.site_types.specs.Profile.{output_of}
use Rattle.site_types.specs.Valid.{IsValid}
use Rattle.panel_rules.specs.Moments.{Moment, Turned, tick_of, IsRun, HaveAllTurned, IsPast}
use Rattle.panel_rules.specs.Zones.{panel_of_zone, holds_released, holds_by_hand}
use Rattle.panel_rules.specs.Markers.{Facts}
use Rattle.panel_rules.specs.Outputs.{is_true_over, panel_of_output, delay_of, is_sounder, is_quiet, is_on}
use Rattle.panel_rules.specs.Run.{facts_of}
use Rattle.panel_rules.specs.DueOutputs.{IsDueOn}
use Rattle.panel_rules.specs.CausedOutputs.{IsCausedOutput}

-- an output that is due to be on is on
abbrev pub DueOutputIsOn : Type 0
DueOutputIsOn =
    (site : Site) (kept : Retained) (done : List Done) (moments : List Moment) (output : ℕ) → IsValid site
    → IsRun site.panels moments → HaveAllTurned site.panels moments
    → IsDueOn site kept done moments output
    → is_on site (facts_of site kept done) kept done output moments ≡ true

-- what a panel's own word tells, and nothing else
abbrev pub own_facts : Site → Retained → List Done → ℕ → List Moment → Facts
own_facts site kept done panel word =
    record {
      released = λ zone. (panel_of_zone site zone == panel) && holds_released site kept done panel word zone;
      by_hand = λ zone. (panel_of_zone site zone == panel) && holds_by_hand site kept done panel word zone;
      faulty = λ source. false;
    }

-- an output of the site without a delay, not disabled and not a quiet sounder, was asked for by each word of
-- its own panel in the last ticks of the profile; these begin after tick 0
pub record IsIndicated (site : Site) (kept : Retained) (done : List Done) (moments : List Moment) (output :
    ℕ) : Type 0 where
  pub plan : Output
  pub is : slice_get site.outputs output ≡ Some plan
  pub late : output_of site.format < tick_of moments
  pub instant : delay_of site output ≡ 0
  pub enabled : in_force site kept (OutputOff output) (tick_of moments) done ≡ false
  pub heard :
      (is_sounder site output
      && is_quiet site (facts_of site kept done) kept done (panel_of_output site output) moments) ≡ false
  pub told : (before : List Moment) → IsPast (Turned (panel_of_output site output) Hold ∷ before) moments
      → tick_of moments ≤ tick_of before + output_of site.format
      → is_true_over site output
      (own_facts site kept done (panel_of_output site output) (Turned (panel_of_output site output) Hold
      ∷ before)) ≡ true

-- an output without a delay, not disabled and not a quiet sounder, is on once each word of its own panel has asked for
-- it in the last ticks of the profile
abbrev pub IndicatedOutputIsOn : Type 0
IndicatedOutputIsOn =
    (site : Site) (kept : Retained) (done : List Done) (moments : List Moment) (output : ℕ) → IsValid site
    → IsRun site.panels moments → HaveAllTurned site.panels moments
    → IsIndicated site kept done moments output
    → is_on site (facts_of site kept done) kept done output moments ≡ true

-- an output that is on is caused
abbrev pub OnOutputIsCaused : Type 0
OnOutputIsCaused =
    (site : Site) (kept : Retained) (done : List Done) (moments : List Moment) (output : ℕ) → IsValid site
    → IsRun site.panels moments → is_on site (facts_of site kept done) kept done output moments ≡ true
    → IsCausedOutput site kept done moments output

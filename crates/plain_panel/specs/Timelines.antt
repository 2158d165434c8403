-- The timeline of a run as it is told tick by tick.
use Rattle.std.specs.Prelude.{◌≡◌, ◌≤◌, ◌-◌, Bool, List}
use Rattle.tick_units.specs.declared.tick.Tick.{Tick}
use Rattle.site_types.specs.declared.retained.Retained.{Retained}
use Rattle.site_types.specs.declared.site.Site.{Site}
use Rattle.face_text.specs.declared.face.Face.{Face}
use Rattle.face_text.specs.declared.step.Step.{Step}
use Rattle.panel_rules.specs.Moments.{Moment, tick_of, up_to}
use Rattle.panel_rules.specs.Timeline.{faces_of, failed_now, told}
use Rattle.panel_rules.specs.Operations.{Answered}
use Rattle.panel_bridges.specs.ClosedSteps.{steps_upto}
use Rattle.plain_panel.specs.declared.telling.Telling.{Telling}
use Rattle.plain_panel.specs.Keepings.{StandsForKeeping}

-- what was told of all ticks but the one that began last, and what is needed to tell of that one
pub record StandsForTelling (site : Site) (kept : Retained) (moments : List Moment) (telling : Telling) :
    Type 0 where
  pub keeping : StandsForKeeping site kept moments telling.keeping
  pub tick : tick_of moments ≡ telling.tick.0
  pub failed : telling.failed ≡ failed_now site kept moments
  pub steps : telling.steps.items ≡ steps_upto site kept moments (tick_of moments - 1)
  pub faces : 1 ≤ tick_of moments → telling.faces.items ≡ faces_of site kept (up_to (tick_of moments - 1) moments)

-- the step of a tick, with the faces after it and the answers given in it
abbrev pub step_with : Tick → List Face → List Answered → Bool → Step
step_with tick faces answers failed = record { tick = tick; faces = faces; answers = told answers failed }

-- The steps of a timeline up to a tick that is over.
use Rattle.std.specs.Prelude.{◌&&◌, ℕ, List, Option, Some, None, filter, if◌then◌else◌, map, nat_le}
use Rattle.std.specs.List.{range_with_len}
use Rattle.site_types.specs.declared.retained.Retained.{Retained}
use Rattle.site_types.specs.declared.site.Site.{Site}
use Rattle.face_text.specs.declared.step.Step.{Step}
use Rattle.panel_rules.specs.Moments.{Moment, tick_of, up_to}
use Rattle.panel_rules.specs.Timeline.{is_told, step_of}

-- the steps of the ticks up to one
abbrev pub steps_upto : Site → Retained → List Moment → ℕ → List Step
steps_upto site kept moments last =
    map (λ tick. step_of site kept (up_to tick moments))
    (filter (is_told site kept moments) (range_with_len 1 last))

-- the step of the tick that began last, if one began and it is told
abbrev pub step_closed : Site → Retained → List Moment → Option Step
step_closed site kept moments =
    if nat_le 1 (tick_of moments) && is_told site kept moments (tick_of moments) then Some
    (step_of site kept moments) else None

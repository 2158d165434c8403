-- What is kept of the cables of a site's loops.
use Rattle.std.specs.Prelude.{◌≡◌, ℕ, List, length, Some, slice_get}
use Rattle.site_types.specs.declared.loop_plan.LoopPlan.{LoopPlan}
use Rattle.isolators.specs.declared.loop_line.LoopLine.{LoopLine}
use Rattle.isolators.specs.Reach.{Cable}
use Rattle.isolators.specs.Stands.{StandsFor as LineStandsFor}
use Rattle.panel_rules.specs.Moments.{Moment}
use Rattle.panel_rules.specs.States.{piece_of}

-- what the cable of a loop is at
abbrev pub cable_after : LoopPlan → List Moment → Cable
cable_after plan before = λ piece. piece_of plan.panel plan.line piece before

-- the cables of the loops at their places, each after what befell
pub record LinesStand (plans : List LoopPlan) (before : List Moment) (lines : List LoopLine) : Type 0 where
  pub size : length lines ≡ length plans
  pub each : (place : ℕ) (plan : LoopPlan) (line : LoopLine) → slice_get plans place ≡ Some plan
      → slice_get lines place ≡ Some line → LineStandsFor plan (cable_after plan before) line

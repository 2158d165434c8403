-- What is kept of the cable of a loop.
use Rattle.std.specs.Prelude.{Option, Some, None}
use Rattle.site_types.specs.declared.loop_plan.LoopPlan.{LoopPlan}
use Rattle.isolators.specs.declared.loop_line.LoopLine.{LoopLine}
use Rattle.isolators.specs.Reach.{Cable}
use Rattle.isolators.specs.Stands.{StandsFor as LineStandsFor}

-- the cable of a loop, where there is a loop
abbrev pub CableStands : Option LoopPlan → Cable → Option LoopLine → Type 0
CableStands None cable None = Unit {0}
CableStands None cable (Some line) = ⊥
CableStands (Some plan) cable None = ⊥
CableStands (Some plan) cable (Some line) = LineStandsFor plan cable line

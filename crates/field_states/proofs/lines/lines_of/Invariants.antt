use Rattle.std.proofs.Common.{[], take}
use Rattle.field_states.specs.Lines.{LinesStand}
use Rattle.field_states.proofs.lines.lines_of.Given as goal

abbrev pub invariant-loop-plan : goal.invariant-loop-plan
invariant-loop-plan l = LinesStand (take l.plan-index l.plans) [] l.lines.items

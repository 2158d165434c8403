use Rattle.std.proofs.Common.{◌-◌, length}
use Rattle.cause_effect.proofs.Walking.{Walked}
use Rattle.cause_effect.proofs.walk.cycle_from.Given as goal

abbrev pub invariant-loop-met : goal.invariant-loop-met
invariant-loop-met l = Walked l.site l.placed l.path.items l.at l.met

abbrev pub decreases-loop-met : goal.decreases-loop-met
decreases-loop-met l = 256 - length l.path.items

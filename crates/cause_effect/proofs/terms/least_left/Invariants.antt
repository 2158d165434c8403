use Rattle.std.proofs.Common.{take}
use Rattle.cause_effect.specs.Placed.{LeastLeftIs}
use Rattle.cause_effect.proofs.terms.least_left.Given as goal

abbrev pub invariant-loop-term : goal.invariant-loop-term
invariant-loop-term l = LeastLeftIs l.placed (take l.term-index l.terms) l.least

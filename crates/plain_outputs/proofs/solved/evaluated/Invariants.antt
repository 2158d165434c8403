use Rattle.marker_table.specs.Equations.{equation, values_of}
use Rattle.plain_outputs.proofs.Solving.{FlagsBelow}
use Rattle.plain_outputs.proofs.solved.evaluated.Given as goal

abbrev pub invariant-loop-place : goal.invariant-loop-place
invariant-loop-place l = FlagsBelow (values_of l.next) (equation l.site l.facts (values_of l.values)) l.place

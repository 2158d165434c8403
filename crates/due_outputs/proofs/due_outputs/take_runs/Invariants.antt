use Rattle.due_outputs.proofs.Places.{RunsTaken}
use Rattle.due_outputs.proofs.due_outputs.take_runs.Given as goal

abbrev pub invariant-loop-place : goal.invariant-loop-place
invariant-loop-place l = RunsTaken l.site l.panels l.now l.place l.initial.runs l.runs

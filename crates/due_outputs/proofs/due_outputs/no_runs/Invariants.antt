use Rattle.due_outputs.specs.Runs.{AreNoRuns}
use Rattle.due_outputs.proofs.due_outputs.no_runs.Given as goal

abbrev pub invariant-loop-place : goal.invariant-loop-place
invariant-loop-place l = AreNoRuns l._place l.runs.items

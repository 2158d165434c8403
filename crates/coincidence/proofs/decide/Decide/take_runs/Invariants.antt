use Rattle.std.proofs.Common.{length}
use Rattle.answer_lanes.specs.Blocks.{block_answer_at}
use Rattle.coincidence.specs.Changes.{TakesFirstRuns}
use Rattle.coincidence.proofs.decide.Decide.take_runs.Given as goal

abbrev pub invariant-loop-left : goal.invariant-loop-left
invariant-loop-left l = TakesFirstRuns block_answer_at l.fn.self l.runs l.left l.fn.findings l.self l.findings

abbrev pub decreases-loop-left : goal.decreases-loop-left
decreases-loop-left l = length l.left

use Rattle.part_trials.specs.Bench.{MayGoOn}
use Rattle.part_trials.proofs.deciding.drive_tick.Given as goal

abbrev pub invariant-loop-answer : goal.invariant-loop-answer
invariant-loop-answer l = MayGoOn l.bench

abbrev pub invariant-loop-operation : goal.invariant-loop-operation
invariant-loop-operation l = MayGoOn l.bench

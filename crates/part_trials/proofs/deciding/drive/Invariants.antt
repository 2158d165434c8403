use Rattle.part_trials.specs.Bench.{MayGoOn}
use Rattle.part_trials.proofs.deciding.drive.Given as goal

abbrev pub invariant-loop-tick : goal.invariant-loop-tick
invariant-loop-tick l = MayGoOn l.bench

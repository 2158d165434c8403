use Rattle.part_trials.specs.Bench.{MayGoOn}
use Rattle.part_trials.proofs.drawn_histories.try_sample.Given as goal

abbrev pub invariant-loop-seed : goal.invariant-loop-seed
invariant-loop-seed l = MayGoOn l.bench

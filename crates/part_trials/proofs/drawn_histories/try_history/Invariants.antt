use Rattle.part_trials.specs.Bench.{MayGoOn}
use Rattle.part_trials.proofs.drawn_histories.try_history.Given as goal

abbrev pub invariant-loop-stretch : goal.invariant-loop-stretch
invariant-loop-stretch l = MayGoOn l.bench

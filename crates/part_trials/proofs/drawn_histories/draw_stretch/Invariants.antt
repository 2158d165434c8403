use Rattle.part_trials.specs.Bench.{MayGoOn}
use Rattle.part_trials.proofs.drawn_histories.draw_stretch.Given as goal

abbrev pub invariant-loop-given : goal.invariant-loop-given
invariant-loop-given l = MayGoOn l.bench

use Rattle.driven_panel.specs.Installations.{IsBetween}
use Rattle.drill_trials.proofs.taking.say_taken.Given as goal

abbrev pub invariant-loop-word : goal.invariant-loop-word
invariant-loop-word l = IsBetween l.panels l.own

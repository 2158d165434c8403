use Rattle.driven_panel.specs.Installations.{IsBetween}
use Rattle.compared_runs.proofs.played.by_system.Given as goal

abbrev pub invariant-loop-block : goal.invariant-loop-block
invariant-loop-block l = IsBetween l.panels l.own

use Rattle.driven_panel.specs.Installations.{HasBegun}
use Rattle.driven_panel.proofs.driving.run_events.Given as goal

abbrev pub invariant-loop-event : goal.invariant-loop-event
invariant-loop-event l = HasBegun l.panels l.own

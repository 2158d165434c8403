use Rattle.tick_units.specs.Orders.{seats_of_panels}
use Rattle.panel_core.proofs.InLine.{HaveTurned}
use Rattle.panel_core.proofs.system.System.canonical_turns.Given as goal

-- the panels up to here had their turns
abbrev pub invariant-loop-before : goal.invariant-loop-before
invariant-loop-before g l = record {
  turned : HaveTurned l.fn.self l.initial.steps (seats_of_panels l.before) l.self l.steps;
}

use Rattle.std.proofs.Common.{◌-◌}
use Rattle.panel_core.proofs.Backwards.{HaveTurnedTo}
use Rattle.panel_core.proofs.system.System.reversed_turns.Given as goal

-- the last panels, so many, had their turns
abbrev pub invariant-loop-before : goal.invariant-loop-before
invariant-loop-before g l = record {
  turned : HaveTurnedTo (l.fn.self.site.panels - l.before) l.fn.self.site.panels l.fn.self l.initial.steps l.self l.steps;
}

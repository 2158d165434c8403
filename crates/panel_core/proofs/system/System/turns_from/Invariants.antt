use Rattle.std.proofs.Common.{◌≤◌}
use Rattle.panel_core.specs.Changes.{AreOfPanels, MakesTurns, seats_between}
use Rattle.panel_core.specs.Marks.{MarksTurns}
use Rattle.panel_core.specs.StepCounts.{CountsTurnsFrom}
use Rattle.panel_core.proofs.system.System.turns_from.Given as goal

-- the seats up to here had their turns
abbrev pub invariant-loop-place : goal.invariant-loop-place
invariant-loop-place g l = record {
  since : l.from ≤ l.place;
  panels : AreOfPanels (seats_between l.from l.place l.order);
  turns : MakesTurns l.fn.self (seats_between l.from l.place l.order) l.self;
  marks : MarksTurns l.fn.self (seats_between l.from l.place l.order) l.self.changed;
  steps : CountsTurnsFrom l.fn.self l.order l.from l.place l.initial.steps l.steps;
}

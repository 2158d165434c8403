use Rattle.std.proofs.Common.{List, take}
use Rattle.site_types.specs.declared.retained.Retained.{Retained}
use Rattle.panel_rules.specs.Moments.{Moment, tick_of}
use Rattle.panel_rules.specs.Operations.{after_desk, operations, requests}
use Rattle.operation_desk.specs.Changes.{HasSameRest, firsts_of}
use Rattle.operation_desk.specs.Stands.{DesksFor, MayTakeTurn, TellsOutcomes}
use Rattle.operation_desk.proofs.desk.Desk.take_own.Given as goal

-- those of the panel among so many were taken
abbrev pub invariant-loop-place : goal.invariant-loop-place
invariant-loop-place l = record {
  rest : HasSameRest l.fn.self l.self;
  took : (kept : Retained) (before : List Moment) → DesksFor l.site kept before l.fn.self → MayTakeTurn l.site kept l.settings l.panel before
      → TellsOutcomes l.site kept (requests l.site before) (tick_of before)
      (after_desk l.site kept (firsts_of l.panel (take l.place l.fn.self.asked.items)) (operations l.site kept before)) l.self;
}

use Rattle.std.proofs.Common.{◌≡◌, List}
use Rattle.site_types.specs.declared.retained.Retained.{Retained}
use Rattle.site_types.specs.declared.site.Site.{Site}
use Rattle.panel_rules.specs.Moments.{Moment}
use Rattle.operation_desk.specs.Changes.{HasAnswered, HasSameRest}
use Rattle.operation_desk.specs.Stands.{DesksFor, MayTakeKeepTurn}
use Rattle.operation_desk.proofs.desk.Desk.answer_waiting.Given as goal

-- so many of those that wait were answered
abbrev pub invariant-loop-place : goal.invariant-loop-place
invariant-loop-place l = record {
  rest : HasSameRest l.fn.self l.self;
  waiting : l.self.waiting ≡ l.fn.self.waiting;
  told : (site : Site) (kept : Retained) (before : List Moment) → DesksFor site kept before l.fn.self → MayTakeKeepTurn site l.failed before
      → HasAnswered site kept l.failed l.place before l.self;
}

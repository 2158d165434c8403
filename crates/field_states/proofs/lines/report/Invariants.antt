use Rattle.std.proofs.Common.{List, ◌∷◌}
use Rattle.site_types.specs.declared.event.Event.TheVariants.{Cable}
use Rattle.panel_rules.specs.Moments.{Moment, Happened}
use Rattle.field_states.specs.Lines.{LinesStand}
use Rattle.field_states.proofs.LineLists.{ToldBelow}
use Rattle.field_states.proofs.lines.report.Given as goal

abbrev pub invariant-loop-place : goal.invariant-loop-place
invariant-loop-place l = (before : List Moment) → LinesStand l.plans before l.initial.lines
    → ToldBelow l.plans before (Happened (Cable l.panel l.line l.piece l.state) ∷ before) l.place l.lines

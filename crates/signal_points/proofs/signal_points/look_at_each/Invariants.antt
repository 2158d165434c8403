use Rattle.std.proofs.Common.{List}
use Rattle.site_types.specs.declared.retained.Retained.{Retained}
use Rattle.blocked_points.specs.declared.done_operation.DoneOperation.{DoneOperation}
use Rattle.panel_rules.specs.Moments.{TickBlock}
use Rattle.signal_points.specs.States.{PointsStand, signals_now}
use Rattle.signal_points.proofs.Looked.{AreLooked}
use Rattle.signal_points.proofs.signal_points.look_at_each.Given as goal

abbrev pub invariant-loop-place : goal.invariant-loop-place
invariant-loop-place l = (kept : Retained) (operations : List DoneOperation) (ticks : List TickBlock) → PointsStand l.site kept operations ticks l.states
    → AreLooked l.round l.now.0 (λ point. signals_now l.site kept operations ticks point) l.initial.runs l.runs l.place

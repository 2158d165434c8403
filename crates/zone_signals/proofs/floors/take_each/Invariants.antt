use Rattle.std.proofs.Common.{take}
use Rattle.blocked_points.specs.Operations.{done_newest_first}
use Rattle.zone_signals.specs.Floors.{RowsStand}
use Rattle.zone_signals.proofs.floors.take_each.Given as goal

abbrev pub invariant-loop-place : goal.invariant-loop-place
invariant-loop-place l = RowsStand l.site (done_newest_first (take l.from l.done)) l.initial.rows
    → RowsStand l.site (done_newest_first (take l.place l.done)) l.rows

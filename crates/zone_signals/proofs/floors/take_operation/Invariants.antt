use Rattle.std.proofs.Common.{List, ◌∷◌, length}
use Rattle.site_types.specs.Done.{Done}
use Rattle.blocked_points.specs.Operations.{as_done}
use Rattle.zone_signals.specs.Floors.{RowStands, RowsStand}
use Rattle.zone_signals.proofs.PartlyTaken.{ArePartly}
use Rattle.zone_signals.proofs.floors.take_operation.Given as goal

abbrev pub invariant-loop-zone : goal.invariant-loop-zone
invariant-loop-zone l = (before : List Done) → RowsStand l.site before l.initial.rows
    → ArePartly (RowStands l.site before) (RowStands l.site (as_done l.done ∷ before)) (length l.site.zones) l.zone l.rows

use Rattle.std.proofs.Common.{◌≡◌, map, take}
use Rattle.panel_conditions.specs.PointSets.{loop_address}
use Rattle.panel_conditions.proofs.points.addresses_of.Given as goal

abbrev pub invariant-loop-point : goal.invariant-loop-point
invariant-loop-point l = l.addresses.items ≡ map (loop_address l.panel) (take l.point-index l.points)

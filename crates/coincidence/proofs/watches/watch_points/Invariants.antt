use Rattle.std.proofs.Common.{◌≡◌, map, take}
use Rattle.coincidence.specs.Parts.{point_from}
use Rattle.coincidence.proofs.watches.watch_points.Given as goal

abbrev pub invariant-loop-point : goal.invariant-loop-point
invariant-loop-point l = l.watches.items ≡ map (point_from l.kept) (take l.point-index l.points)

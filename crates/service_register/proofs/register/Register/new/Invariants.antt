use Rattle.std.proofs.Common.{◌≡◌, map, take}
use Rattle.service_register.specs.Listed.{listed_row}
use Rattle.service_register.specs.Points.{point_row}
use Rattle.service_register.proofs.register.Register.new.Given as goal

abbrev pub invariant-loop-point : goal.invariant-loop-point
invariant-loop-point l = map listed_row l.points.items ≡ map (point_row l.site) (take l.point-index l.site.points)

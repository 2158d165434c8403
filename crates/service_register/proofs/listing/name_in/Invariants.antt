use Rattle.std.proofs.Common.{◌≡◌, map, drop}
use Rattle.service_register.specs.Listed.{listed_row}
use Rattle.service_register.specs.Points.{lists_point}
use Rattle.service_register.proofs.listing.name_in.Given as goal

abbrev pub invariant-loop-point : goal.invariant-loop-point
invariant-loop-point l =
    lists_point l.name (map listed_row (drop l.point-index l.points)) ≡ lists_point l.name (map listed_row l.points)

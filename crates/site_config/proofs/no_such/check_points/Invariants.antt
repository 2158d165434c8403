use Rattle.std.proofs.Common.{◌≡◌, drop}
use Rattle.site_document.specs.Refusals.{first_found}
use Rattle.site_config.specs.NameMaps.{look_up}
use Rattle.site_config.specs.NoSuch.{point_fault}
use Rattle.site_config.proofs.no_such.check_points.Given as goal

abbrev pub invariant-points : goal.invariant-points
invariant-points l =
    first_found (point_fault (look_up l.names) l.loops l.zones) (drop l.point-index l.points)
    ≡ first_found (point_fault (look_up l.names) l.loops l.zones) l.points

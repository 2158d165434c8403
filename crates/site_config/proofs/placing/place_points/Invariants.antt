use Rattle.std.proofs.Common.{◌≡◌, ◌++◌, map, drop}
use Rattle.site_config.specs.NameMaps.{look_up}
use Rattle.site_config.specs.Placing.{point_view, placed_point}
use Rattle.site_config.proofs.placing.place_points.Given as goal

abbrev pub invariant-points : goal.invariant-points
invariant-points l = map point_view l.placed.items ++ map (placed_point (look_up l.names)) (drop l.point-index l.points)
    ≡ map (placed_point (look_up l.names)) l.points

use Rattle.std.proofs.Common.{◌≡◌, ◌++◌, map, drop}
use Rattle.site_config.specs.NameMaps.{look_up}
use Rattle.site_config.specs.Placing.{marker_view, placed_marker}
use Rattle.site_config.proofs.placing.place_markers.Given as goal

abbrev pub invariant-markers : goal.invariant-markers
invariant-markers l = map marker_view l.placed.items ++ map (placed_marker (look_up l.names)) (drop l.marker-index l.markers)
    ≡ map (placed_marker (look_up l.names)) l.markers

use Rattle.std.proofs.Common.{◌≡◌, ◌++◌, map, drop}
use Rattle.site_config.specs.NameMaps.{look_up}
use Rattle.site_config.specs.Placing.{zone_view, placed_zone}
use Rattle.site_config.proofs.placing.place_zones.Given as goal

abbrev pub invariant-zones : goal.invariant-zones
invariant-zones l =
    map zone_view l.placed.items ++ map (placed_zone (look_up l.names)) (drop l.zone-index l.zones) ≡ map (placed_zone (look_up l.names)) l.zones

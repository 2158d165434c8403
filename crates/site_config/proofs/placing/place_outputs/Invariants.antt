use Rattle.std.proofs.Common.{◌≡◌, ◌++◌, map, drop}
use Rattle.site_config.specs.NameMaps.{look_up}
use Rattle.site_config.specs.Placing.{output_view, placed_output}
use Rattle.site_config.proofs.placing.place_outputs.Given as goal

abbrev pub invariant-outputs : goal.invariant-outputs
invariant-outputs l = map output_view l.placed.items ++ map (placed_output (look_up l.names)) (drop l.output-index l.outputs)
    ≡ map (placed_output (look_up l.names)) l.outputs

use Rattle.std.proofs.Common.{◌≡◌, drop}
use Rattle.site_document.specs.Refusals.{first_found}
use Rattle.site_config.specs.NameMaps.{look_up}
use Rattle.site_config.specs.NoSuch.{output_fault}
use Rattle.site_config.proofs.no_such.check_outputs.Given as goal

abbrev pub invariant-outputs : goal.invariant-outputs
invariant-outputs l =
    first_found (output_fault (look_up l.names)) (drop l.output-index l.outputs) ≡ first_found (output_fault (look_up l.names)) l.outputs

use Rattle.std.proofs.Common.{◌≡◌, drop}
use Rattle.site_document.specs.Refusals.{first_found}
use Rattle.site_config.specs.NameMaps.{look_up}
use Rattle.site_config.specs.Partners.{mutual_fault}
use Rattle.site_config.proofs.partners.check_mutual.Given as goal

abbrev pub invariant-zones : goal.invariant-zones
invariant-zones l =
    first_found (mutual_fault (look_up l.names) l.zones) (drop l.zone-index l.zones) ≡ first_found (mutual_fault (look_up l.names) l.zones) l.zones

use Rattle.std.proofs.Common.{◌≡◌, drop}
use Rattle.site_document.specs.Refusals.{first_found}
use Rattle.site_config.specs.NameMaps.{look_up}
use Rattle.site_config.specs.NoSuch.{partner_fault}
use Rattle.site_config.proofs.no_such.check_partners.Given as goal

abbrev pub invariant-zones : goal.invariant-zones
invariant-zones l =
    first_found (partner_fault (look_up l.names) l.zones) (drop l.zone-index l.zones) ≡ first_found (partner_fault (look_up l.names) l.zones) l.zones

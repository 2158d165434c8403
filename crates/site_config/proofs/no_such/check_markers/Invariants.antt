use Rattle.std.proofs.Common.{◌≡◌, drop}
use Rattle.site_document.specs.Refusals.{first_found}
use Rattle.site_config.specs.NameMaps.{look_up}
use Rattle.site_config.specs.NoSuch.{marker_fault}
use Rattle.site_config.proofs.no_such.check_markers.Given as goal

abbrev pub invariant-markers : goal.invariant-markers
invariant-markers l =
    first_found (marker_fault (look_up l.names) l.panels) (drop l.marker-index l.markers) ≡ first_found (marker_fault (look_up l.names) l.panels)
    l.markers

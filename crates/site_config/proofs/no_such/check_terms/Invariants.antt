use Rattle.std.proofs.Common.{◌≡◌, drop}
use Rattle.site_document.specs.Refusals.{first_found}
use Rattle.site_config.specs.NameMaps.{look_up}
use Rattle.site_config.specs.NoSuch.{term_fault}
use Rattle.site_config.proofs.no_such.check_terms.Given as goal

abbrev pub invariant-terms : goal.invariant-terms
invariant-terms l =
    first_found (term_fault (look_up l.names) l.panels) (drop l.term-index l.terms) ≡ first_found (term_fault (look_up l.names) l.panels) l.terms

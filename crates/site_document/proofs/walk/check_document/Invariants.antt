use Rattle.std.proofs.Common.{◌≡◌, drop}
use Rattle.toml.specs.View.{table_view}
use Rattle.site_document.specs.Refusals.{first_found}
use Rattle.site_document.specs.Walk.{found_by, passes}
use Rattle.site_document.proofs.walk.check_document.Given as goal

abbrev pub invariant-passes : goal.invariant-passes
invariant-passes l = first_found (found_by (table_view l.top)) (drop l.pass-index l.pass-items) ≡ first_found (found_by (table_view l.top)) passes

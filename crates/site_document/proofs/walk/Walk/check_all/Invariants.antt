use Rattle.std.proofs.Common.{◌≡◌, drop}
use Rattle.toml.specs.View.{table_view}
use Rattle.site_document.specs.Refusals.{first_found}
use Rattle.site_document.specs.Rules.{row_kinds}
use Rattle.site_document.specs.Walk.{found_in_list}
use Rattle.site_document.proofs.walk.Walk.check_all.Given as goal

abbrev pub invariant-kinds : goal.invariant-kinds
invariant-kinds l =
    first_found (found_in_list l.self.pass (table_view l.self.top.now)) (drop l.kind-index l.kind-items) ≡ first_found (found_in_list l.self.pass (table_view l.self.top.now))
    row_kinds

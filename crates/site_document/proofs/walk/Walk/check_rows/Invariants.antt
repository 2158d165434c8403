use Rattle.std.proofs.Common.{◌≡◌, ◌+◌, drop}
use Rattle.toml.specs.View.{items_view, table_view}
use Rattle.site_document.specs.Walk.{found_in_rows}
use Rattle.site_document.proofs.walk.Walk.check_rows.Given as goal

abbrev pub invariant-rows : goal.invariant-rows
invariant-rows l =
    found_in_rows l.self.pass l.kind (table_view l.self.top.now) (l.index + 1) (items_view (drop l.index l.rows))
    ≡ found_in_rows l.self.pass l.kind (table_view l.self.top.now) 1 (items_view l.rows)

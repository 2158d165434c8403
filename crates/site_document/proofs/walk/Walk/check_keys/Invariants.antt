use Rattle.std.proofs.Common.{◌≡◌, drop}
use Rattle.toml.specs.View.{table_view}
use Rattle.site_document.specs.Refusals.{first_found}
use Rattle.site_document.specs.Walk.{found_at}
use Rattle.site_document.proofs.walk.Walk.check_keys.Given as goal

abbrev pub invariant-keys : goal.invariant-keys
invariant-keys l =
    first_found (found_at l.self.pass l.place (table_view l.self.top.now) (table_view l.table)) (drop l.key-index l.keys)
    ≡ first_found (found_at l.self.pass l.place (table_view l.self.top.now) (table_view l.table)) l.keys

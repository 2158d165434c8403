use Rattle.std.proofs.Common.{◌≡◌, map, drop}
use Rattle.service_keepers.specs.Rows.{visit_row}
use Rattle.service_keepers.specs.Tables.{visit_numbered}
use Rattle.service_keepers.proofs.memory_tables.visit_in.Given as goal

abbrev pub invariant-loop-visit : goal.invariant-loop-visit
invariant-loop-visit l =
    visit_numbered l.number (map visit_row (drop l.visit-index l.visits)) ≡ visit_numbered l.number (map visit_row l.visits)

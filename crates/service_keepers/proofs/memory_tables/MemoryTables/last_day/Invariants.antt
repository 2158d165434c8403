use Rattle.std.proofs.Common.{◌≡◌, map, drop, None}
use Rattle.service_keepers.specs.Rows.{test_row, visit_row}
use Rattle.service_keepers.proofs.TableLaws.{last_from}
use Rattle.service_keepers.proofs.memory_tables.MemoryTables.last_day.Given as goal

abbrev pub invariant-loop-test : goal.invariant-loop-test
invariant-loop-test l =
    last_from l.point.bytes (map visit_row l.self.visits.items) l.last (map test_row (drop l.test-index l.self.tests.items))
    ≡ last_from l.point.bytes (map visit_row l.self.visits.items) None (map test_row l.self.tests.items)

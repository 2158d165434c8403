use Rattle.std.proofs.Common.{◌≡◌, map, drop}
use Rattle.service_keepers.specs.Rows.{test_of, test_row}
use Rattle.service_keepers.specs.Tables.{has_test}
use Rattle.service_keepers.proofs.memory_tables.is_among.Given as goal

abbrev pub invariant-loop-test : goal.invariant-loop-test
invariant-loop-test l =
    has_test (test_of l.visit l.point) (map test_row (drop l.test-index l.tests)) ≡ has_test (test_of l.visit l.point) (map test_row l.tests)

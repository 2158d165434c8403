use Rattle.std.proofs.Common.{◌≡◌, ◌∙◌, List, ap, map, sym, false}
use Rattle.std.specs.Result.{is_ok}
use Rattle.service_keepers.specs.Rows.{test_of, test_row}
use Rattle.service_keepers.specs.Tables.{has_test}
use Rattle.service_keepers.specs.declared.point_test.PointTest.{PointTest}
use Rattle.service_keepers.proofs.TableLaws.{distinct_tests_pushed}
use Rattle.service_keepers.proofs.memory_tables.MemoryTables.put_test.Goals as goal

pub invariant_of-self : goal.invariant_of-self
invariant_of-self c =
    let memory = c.args.self.now in
    let test = test_of c.args.visit c.args.point.now in
    let none : has_test test (map test_row memory.tests.items) ≡ false =
    sym (ap (λ (tests : List PointTest). has_test test (map test_row tests)) c.deref.ensures.value) ∙ sym c.is_among.ensures ∙ c.if-is_among.false in
    record {
      numbers = memory.numbers;
      pairs = distinct_tests_pushed memory.tests.items c.push.new.self.items (record { visit = c.args.visit; point = c.args.point.now })
          (is_ok c.push.result) c.push.ensures.items memory.pairs none;
    }

use Rattle.std.proofs.Common.{◌≡◌, ◌∙◌, map, sym, None}
use Rattle.std.specs.Result.{is_ok}
use Rattle.service_keepers.specs.Rows.{visit_row}
use Rattle.service_keepers.specs.Tables.{visit_numbered}
use Rattle.service_keepers.proofs.TableLaws.{distinct_numbers_pushed, none_found}
use Rattle.service_keepers.proofs.memory_tables.MemoryTables.put_visit.Goals as goal

pub invariant_of-self : goal.invariant_of-self
invariant_of-self c =
    let memory = c.args.self.now in
    let none : visit_numbered c.args.visit.now.number (map visit_row memory.visits.items) ≡ None =
    none_found visit_row c.find_visit.result (visit_numbered c.args.visit.now.number (map visit_row memory.visits.items)) c.find_visit.ensures
    (sym c.is_some.ensures ∙ c.if-is_some.false) in
    record {
      numbers = distinct_numbers_pushed memory.visits.items c.push.new.self.items c.args.visit.now (is_ok c.push.result) c.push.ensures.items memory.numbers
          none;
      pairs = memory.pairs;
    }

-- The tables that a keeper in memory holds, and what a call makes of them.
use Rattle.std.specs.Prelude.{◌≡◌, [], ◌∷◌, ◌++◌, Some, map, is_some, if◌then◌else◌}
use Rattle.std.proofs.Common.{subst}
use Rattle.std.proofs.lemmas.Option.{same_Some}
use Rattle.service_keepers.specs.Rows.{test_row, visit_row}
use Rattle.service_keepers.specs.Tables.{AreDistinct, Tables, TestRow, VisitRow, has_test, visit_numbered}
use Rattle.service_keepers.specs.declared.memory_tables.MemoryTables.{MemoryTables}

abbrev pub tables_of : MemoryTables → Tables
tables_of memory = record { visits = map visit_row memory.visits.items; tests = map test_row memory.tests.items }

-- the tables with a visit behind the others, where none of its number is kept
abbrev pub with_visit : VisitRow → Tables → Tables
with_visit visit tables =
    if is_some (visit_numbered visit.number tables.visits) then tables
    else record tables { visits = tables.visits ++ visit ∷ [] }

-- the tables with a test behind the others, where it isn't kept
abbrev pub with_test : TestRow → Tables → Tables
with_test test tables =
    if has_test test tables.tests then tables else record tables { tests = tables.tests ++ test ∷ [] }

-- what is told keeps nothing twice
pub told_distinct : (memory : MemoryTables) (kept : Tables) → Some (tables_of memory) ≡ Some kept
    → AreDistinct kept
told_distinct memory kept told =
    subst AreDistinct (same_Some (tables_of memory) kept told)
    (record { visits = memory.numbers; tests = memory.pairs })

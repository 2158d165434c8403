-- What a keeper over a database in memory keeps: nothing before the database is opened.
use Rattle.std.specs.Prelude.{◌≡◌, Option, Some, None, refl}
use Rattle.std.proofs.Common.{subst}
use Rattle.std.proofs.lemmas.Option.{same_Some}
use Rattle.service_keepers.specs.Tables.{AreDistinct, Tables, no_tables}
use Rattle.register_sqlite.specs.declared.memory_database.MemoryDatabase.{MemoryDatabase}

abbrev pub tables_kept : Option MemoryDatabase → Tables
tables_kept None = no_tables
tables_kept (Some database) = database.register

-- what is told keeps nothing twice
pub told_distinct : (database : Option MemoryDatabase) (kept : Tables)
    → Some (tables_kept database) ≡ Some kept → AreDistinct kept
told_distinct None kept told =
    subst AreDistinct (same_Some no_tables kept told) (record { visits = refl; tests = refl })
told_distinct (Some database) kept told =
    subst AreDistinct (same_Some database.register kept told)
    (record { visits = database.numbers; tests = database.pairs })

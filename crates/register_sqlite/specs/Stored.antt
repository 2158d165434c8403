-- The rows in which the database keeps the register, and when it keeps one.
use Rattle.std.specs.Prelude.{◌≡◌, ℕ, ◌+◌, ◌≤◌, pos, false, List, [], ◌∷◌, map, None, Result}
use Rattle.std.specs.Prelude.{IfErr, IfOk, IsTrue, OnErr, OnOk}
use Rattle.std.specs.List.{AllByRecursion}
use Rattle.sqlite_value.specs.Order.{Row, bytes, column}
use Rattle.sqlite_value.specs.declared.value.Value.{Value}
use Rattle.sqlite_value.specs.declared.value.Value.TheVariants.{Null, Int, Text}
use Rattle.sqlite_trees.specs.View.{doubt}
use Rattle.sqlite.specs.Tree.{Trees}
use Rattle.sqlite.specs.Held.{Held, state}
use Rattle.sqlite.specs.State.{HasCleanDisk, State}
use Rattle.sqlite.specs.Store.{Ghosts}
use Rattle.register_sqlite.specs.declared.trouble.Trouble.{Trouble}
use Rattle.service_keepers.specs.Tables.{AreDistinct, Tables, TestRow, VisitRow, no_tables}
use Rattle.register_sqlite.specs.Faults.{IsWantOfMemory}
use Rattle.register_sqlite.specs.Schema.{no_schema, register_schema}
use Rattle.register_sqlite.specs.Values.{IsTestRow, IsVisitRow}

-- the number that a value is
abbrev pub number_in : Value → ℕ
number_in (Int (pos number)) = number
number_in _ = 0

-- a visit's row: its number is the row's own, so its column is left empty
abbrev pub stored_visit : VisitRow → Row
stored_visit visit = Int (pos visit.number) ∷ Null ∷ Int (pos visit.day) ∷ Text visit.engineer ∷ []

-- the visit that a row is
abbrev pub visit_in : Row → VisitRow
visit_in row =
    record { number = number_in (column row 0); day = number_in (column row 2); engineer = bytes (column row 3) }

-- a test's row, by its place among the tests
abbrev pub stored_test : ℕ → TestRow → Row
stored_test place test = Int (pos place) ∷ Int (pos test.visit) ∷ Text test.point ∷ []

-- tests from a place on
abbrev pub stored_tests : ℕ → List TestRow → List Row
stored_tests place [] = []
stored_tests place (test ∷ rest) = stored_test place test ∷ stored_tests (place + 1) rest

-- the test that a row is
abbrev pub test_in : Row → TestRow
test_in row = record { visit = number_in (column row 1); point = bytes (column row 2) }

-- what is kept: the rows of the two tables
abbrev pub tables_in : Trees → Tables
tables_in trees = record { visits = map visit_in (trees 0); tests = map test_in (trees 1) }

-- A database has the two tables and nothing else, no row that isn't a visit's or a test's, none twice, and nothing
-- that isn't committed, and no query of it is cut short.
pub record IsRegister (s : State) : Type 0 where
  pub schema : s.now.schema ≡ register_schema
  pub settled : s.committed ≡ s.now
  pub autocommit : s.in_transaction ≡ false
  pub visits : s.now.trees 0 ≡ map stored_visit (tables_in s.now.trees).visits
  pub tests : s.now.trees 1 ≡ stored_tests 1 (tables_in s.now.trees).tests
  pub distinct : AreDistinct (tables_in s.now.trees)
  pub of_visits : AllByRecursion IsVisitRow (tables_in s.now.trees).visits
  pub of_tests : AllByRecursion IsTestRow (tables_in s.now.trees).tests
  pub unlimited : s.step_limit ≡ None

-- nothing was ever written
abbrev pub IsNoDatabase : State → Type 0
IsNoDatabase s = (s.now.schema ≡ no_schema) × (s.in_transaction ≡ false) × (s.step_limit ≡ None)

-- a register whose tables are empty
abbrev pub IsEmptyRegister : State → Type 0
IsEmptyRegister s = IsRegister s × (tables_in s.now.trees ≡ no_tables)

-- a register is there as it was
pub record KeepsRegister (old new : State) : Type 0 where
  pub register : IsRegister new
  pub same : new.now ≡ old.now
  pub was_open : IsTrue old.is_open

-- A disk that has handed back what was written had done so before, and a query may take as many steps as before.
abbrev pub ComesAfter : State → State → Type 0
ComesAfter old new = (doubt old.is_clean ≤ doubt new.is_clean) × (new.step_limit ≡ old.step_limit)

-- ---- what a call makes of a register and answers

-- Its tables are changed by a step where the call is answered Ok, and else are as they were, and the call was refused
-- for one of these causes.
pub record Changes (step : Tables → Tables → Type 0) (Refuses : Tables → Trouble → Type 0) (old new : State)
    (result : Result (Unit {0}) Trouble) : Type 0 where
  pub register : IsRegister new
  pub ok : OnOk result (step (tables_in old.now.trees) (tables_in new.now.trees))
  pub err : OnErr result (tables_in new.now.trees ≡ tables_in old.now.trees)
  pub refused : IfErr result (Refuses (tables_in old.now.trees))

-- The register stays, and what is answered is so of its tables. Only want of memory keeps the call from its answer.
pub record AnswersOf {T : Type 0} (IsSo : T → Tables → Type 0) (old new : State)
    (result : Result T Trouble) : Type 0 where
  pub stays : KeepsRegister old new
  pub so : IfOk result (λ answer. IsSo answer (tables_in old.now.trees))
  pub refused : IfErr result IsWantOfMemory

-- a store neither fails nor loses what was written, as memory never does
abbrev pub IsSteady : {S : Type 0} → Ghosts S → Type 0
IsSteady {S} store =
    (held : Held S)
    → HasCleanDisk (state store held) × IsTrue (state store held).is_open × ((state store held).faults ≡ 0)

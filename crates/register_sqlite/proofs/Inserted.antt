-- What the two texts that put a row make of a register.
use Rattle.std.proofs.Common.{◌≡◌, ◌⊎◌, ℕ, pos, false, List, [], ◌∷◌, None, Ok, Option, refl, ap, subst, ◌∙◌}
use Rattle.std.specs.Prelude.{ℤ}
use Rattle.sqlite_value.specs.Order.{Row}
use Rattle.sqlite_value.specs.declared.value.Value.TheVariants.{Null, Int, Text}
use Rattle.sqlite_schema.specs.declared.command.Conflict.TheVariants.{Abort}
use Rattle.sqlite_schema.specs.declared.command.Command.TheVariants.{InsertOr}
use Rattle.sqlite_schema.specs.declared.command.Source.{Source}
use Rattle.sqlite_schema.specs.declared.command.Source.TheVariants.{Values}
use Rattle.sqlite_schema.specs.declared.schema.Table.{Table}
use Rattle.sqlite_rules.specs.Edit.{with_rowid, next_rowid}
use Rattle.sqlite_rules.specs.declared.error.Rowids.TheVariants.{Chosen}
use Rattle.sqlite.specs.Cast.{cast, cast_row}
use Rattle.sqlite_schema.specs.declared.schema.Kind.TheVariants.{Integer}
use Rattle.sqlite.specs.Does.{Does, OnRows, Tally}
use Rattle.sqlite.specs.Effect.{Database}
use Rattle.sqlite.specs.Rows.{Sourced, Task, Tries, TriesEach, Written, count_of, nothing, stamped}
use Rattle.sqlite.specs.Tree.{Trees}
use Rattle.sqlite.specs.declared.run.Mode.{Mode}
use Rattle.service_keepers.specs.Tables.{TestRow, VisitRow}
use Rattle.register_sqlite.specs.Schema.{register_schema, tests_table, visits_table}
use Rattle.register_sqlite.specs.Stored.{stored_test, stored_visit}
use Rattle.register_sqlite.specs.Texts.{test_params, visit_params}
use Rattle.register_sqlite.proofs.Compared.{cast_null, cast_number}
use Rattle.register_sqlite.proofs.Parts.{PassesOver, PutsRow, do_nothing, same_value, tried, went}
use Rattle.register_sqlite.proofs.Understood.{test_terms, visit_terms}

pub visit_cast : (visit : VisitRow) → cast_row visits_table (Int (pos visit.number) ∷ Null ∷ Int (pos visit.day) ∷ Text visit.engineer ∷ []) ≡ stored_visit visit
visit_cast visit =
    ap (λ x. x ∷ cast Integer Null ∷ cast Integer (Int (pos visit.day)) ∷ Text visit.engineer ∷ []) (cast_number visit.number)
    ∙ ap (λ x. Int (pos visit.number) ∷ x ∷ cast Integer (Int (pos visit.day)) ∷ Text visit.engineer ∷ []) cast_null
    ∙ ap (λ x. Int (pos visit.number) ∷ Null ∷ x ∷ Text visit.engineer ∷ []) (cast_number visit.day)

pub test_source_cast : (test : TestRow) → cast_row tests_table (Null ∷ Int (pos test.visit) ∷ Text test.point ∷ []) ≡ Null ∷ Int (pos test.visit) ∷ Text test.point ∷ []
test_source_cast test =
    ap (λ x. x ∷ cast Integer (Int (pos test.visit)) ∷ Text test.point ∷ []) cast_null ∙ ap (λ x. Null ∷ x ∷ Text test.point ∷ []) (cast_number test.visit)

pub test_cast : (place : ℕ) (test : TestRow) → cast_row tests_table (stored_test place test) ≡ stored_test place test
test_cast place test =
    ap (λ x. x ∷ cast Integer (Int (pos test.visit)) ∷ Text test.point ∷ []) (cast_number place) ∙ ap (λ x. Int (pos place) ∷ x ∷ Text test.point ∷ []) (cast_number test.visit)

abbrev row_task : Option ℕ → Mode → Table → Row → Task
row_task limit mode table params = record { limit = limit; keys = mode.keys; schema = register_schema; table = table; params = params }

abbrev pub visits_task : Option ℕ → Mode → Row → Task
visits_task limit mode params = row_task limit mode visits_table params

abbrev pub tests_task : Option ℕ → Mode → Row → Task
tests_task limit mode params = row_task limit mode tests_table params

-- no row of sqlite_sequence counts for the table
abbrev uncounted : Table → Table
uncounted table = record table { is_counted = false }

module _ (limit : Option ℕ) (mode : Mode) (db : Trees) (text : List ℕ) (tally : Tally) (after : Database) where
  -- the one row that a text puts was tried, and the database is as that left it
  row_written : (params : Row) (table : Table) (at : ℕ) (from : Source) (source : Row) → let task = row_task limit mode (uncounted table) params in
      ((rows : List Row) → Sourced limit (record { schema = register_schema; trees = db }) (stamped task.table params) from (Ok rows) → rows ≡ source ∷ [])
      → OnRows task mode None (InsertOr at Abort from do_nothing) db (Ok (tally, after))
      → (one : Written) × Tries task Abort do_nothing (with_rowid Chosen (db table.tree) (cast_row task.table source)) db (Ok one)
      × (after ≡ record { schema = register_schema; trees = one.trees })
  row_written params table at from source sourced h =
      let task = row_task limit mode (uncounted table) params in
      let done = went h in
      let now = ap (λ (p : Tally × Database). p.1) (same_value (went (went done.2).2).2) in
      let given = went done.1 in
      let counted = went given.2 in
      let each = went counted.2 in
      let last = went each.2 in
      let top = count_of counted.0 in
      let first = went (subst (λ rows. TriesEach task Abort do_nothing rows top (nothing db) (Ok each.0)) (sourced given.0 given.1) each.1) in
      let trees : done.0.trees ≡ first.0.trees =
      ap (λ (w : Written). w.trees) (same_value last.2) ∙ same_value last.1 ∙ ap (λ (p : Written × ℤ). p.0.trees) (same_value first.2) in
      (first.0, first.1, now ∙ ap (λ trees. record { schema = register_schema; trees = trees }) trees)

  pub visit_written : (visit : VisitRow)
      → Does limit mode (visit_params visit) (record { schema = register_schema; trees = db }) text None (InsertOr 0 Abort (Values visit_terms 4) do_nothing) (Ok (tally, after))
      → (one : Written) × (PassesOver (visits_task limit mode (visit_params visit)) (stored_visit visit) db one ⊎ PutsRow (visits_task limit mode (visit_params visit)) (stored_visit visit) db one)
      × (after ≡ record { schema = register_schema; trees = one.trees })
  visit_written visit h =
      let task = visits_task limit mode (visit_params visit) in
      let source = Int (pos visit.number) ∷ Null ∷ Int (pos visit.day) ∷ Text visit.engineer ∷ [] in
      let it = row_written (visit_params visit) visits_table 0 (Values visit_terms 4) source (λ rows given. given.1) h in
      let new_is = ap (with_rowid Chosen (db 0)) (visit_cast visit) in
      let tries = subst (λ new. Tries task Abort do_nothing new db (Ok it.0)) new_is it.1 in
      (it.0, tried task (stored_visit visit) db it.0 (λ news. refl) tries, it.2)

  pub test_written : (test : TestRow)
      → Does limit mode (test_params test) (record { schema = register_schema; trees = db }) text None (InsertOr 1 Abort (Values test_terms 3) do_nothing) (Ok (tally, after))
      → (place : ℕ) → next_rowid (db 1) ≡ pos place
      → (one : Written) × (PassesOver (tests_task limit mode (test_params test)) (stored_test place test) db one ⊎ PutsRow (tests_task limit mode (test_params test)) (stored_test place test) db one)
      × (after ≡ record { schema = register_schema; trees = one.trees })
  test_written test h place next =
      let task = tests_task limit mode (test_params test) in
      let source = Null ∷ Int (pos test.visit) ∷ Text test.point ∷ [] in
      let it = row_written (test_params test) tests_table 1 (Values test_terms 3) source (λ rows given. given.1) h in
      let new_is = ap (with_rowid Chosen (db 1)) (test_source_cast test) ∙ ap (λ id. Int id ∷ Int (pos test.visit) ∷ Text test.point ∷ []) next in
      let tries = subst (λ new. Tries task Abort do_nothing new db (Ok it.0)) new_is it.1 in
      (it.0, tried task (stored_test place test) db it.0 (λ news. refl) tries, it.2)

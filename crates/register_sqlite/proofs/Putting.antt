-- Over a register in a store that never fails, a text that puts a row is refused for want of memory, or where no number is
-- left for a test.
use Rattle.std.proofs.Common.{◌≡◌, inl, inr, ℕ, ◌+◌, ◌^◌, ◌≤◌, pos, Bool, true, false, List, [], ◌∷◌, ◌++◌, length, map, None, Some, Err, Option, refl, sym, ap, subst, ◌∙◌, arith}
use Rattle.std.specs.Prelude.{◌==◌, IsSome, nat_lt, sum_by}
use Rattle.std.specs.List.{AllByRecursion, list_all, list_any}
use Rattle.std.specs.Float.{NotNan}
use Rattle.std.specs.Int.{bit_at}
use Rattle.std.specs.Ordering.{is_eq}
use Rattle.std.specs.Cmp.{unsigned_tied}
use Rattle.std.proofs.lemmas.Bool.{ltb-false}
use Rattle.std.proofs.lemmas.List.Elements.{All-from_recursion}
use Rattle.std.proofs.lemmas.Nat.Bits.{bit_at-zero}
use Rattle.std.proofs.lemmas.Option.{none-some}
use Rattle.sqlite_value.specs.Keys.{plain}
use Rattle.sqlite_value.specs.Order.{Row, column, exact, number, value_cmp}
use Rattle.sqlite_value.specs.declared.value.Value.TheVariants.{Null, Int, Text}
use Rattle.sqlite_trees.specs.Tree.{Trees, put_row, with_tree}
use Rattle.sqlite_trees.specs.View.{IsStorable, is_int}
use Rattle.sqlite_sql.specs.Ops.{fits_i64}
use Rattle.sqlite_sql.specs.Catalog.{entry_of}
use Rattle.sqlite_schema.specs.Rules.{Keeps, Refers, clashes, index_reals, passes}
use Rattle.sqlite_schema.specs.declared.schema.Index.{Index}
use Rattle.sqlite_schema.specs.declared.command.Conflict.TheVariants.{Abort}
use Rattle.sqlite_schema.specs.declared.command.Command.TheVariants.{InsertOr}
use Rattle.sqlite_schema.specs.declared.command.Source.TheVariants.{Values}
use Rattle.sqlite_schema.specs.declared.command.Command.{Command}
use Rattle.sqlite_schema.specs.declared.command.Source.{Source}
use Rattle.sqlite_schema.specs.declared.schema.Among.TheVariants.{All as AllKeys}
use Rattle.sqlite_schema.specs.declared.schema.Constraint.TheVariants.{Unique}
use Rattle.sqlite_rules.specs.Lists.{Has}
use Rattle.sqlite_rules.specs.Edit.{IsOversized, is_taken, next_rowid, with_rowid}
use Rattle.sqlite_rules.specs.declared.error.Rowids.TheVariants.{Chosen}
use Rattle.sqlite.specs.Does.{Does}
use Rattle.sqlite.specs.Rows.{Tries, TriesEach, count_of, nothing}
use Rattle.sqlite.specs.State.{Executes, IsMisplaced, State, mode_of}
use Rattle.sqlite.specs.declared.error.Error.{Error}
use Rattle.sqlite.specs.declared.error.Error.TheVariants.{SqliteFailure}
use Rattle.sqlite.specs.declared.error.ErrorCode.TheVariants.{NoRowid, OutOfMemory}
use Rattle.sqlite.specs.Listing.{understood}
use Rattle.sqlite.proofs.Callers.{statement_of}
use Rattle.service_keepers.specs.Tables.{TestRow, VisitRow, are_distinct_tests, visit_numbered}
use Rattle.register_sqlite.specs.Faults.{RefusesTest}
use Rattle.register_sqlite.specs.Schema.{register_schema, tests_table, visits_table}
use Rattle.register_sqlite.specs.Stored.{IsRegister, stored_test, stored_tests, stored_visit, tables_in}
use Rattle.register_sqlite.specs.Texts.{insert_test_text, insert_visit_text, test_params, visit_params}
use Rattle.register_sqlite.specs.Values.{IsTestRow, IsVisitRow}
use Rattle.register_sqlite.specs.declared.trouble.Trouble.TheVariants as trouble
use Rattle.register_sqlite.proofs.Apart.{none_clashes}
use Rattle.register_sqlite.proofs.Compared.{apart as apart_number, numbers_cmp}
use Rattle.register_sqlite.proofs.Fitting.{PassesRules, StopsAt, stopped_so, tries}
use Rattle.register_sqlite.proofs.Inserted.{test_cast, test_source_cast, tests_task, visit_cast, visits_task}
use Rattle.register_sqlite.proofs.Kept.{distinct_tests_with, next_place, no_test, none_found, put_last}
use Rattle.register_sqlite.proofs.Parts.{do_nothing}
use Rattle.register_sqlite.proofs.Understood.{insert_test_command, insert_test_plain, insert_test_whole, insert_visit_command, insert_visit_plain, insert_visit_whole, test_terms, visit_terms}
use Rattle.register_sqlite.proofs.Wanting.{IsSteadily, executes}
use lib.Ieee.{is_nan}

-- ---- what can be stored

a_number : (n : ℕ) → NotNan (exact (pos n))
unfolding is_nan
a_number n = tt

zero_is : NotNan (number Null)
unfolding is_nan
zero_is = tt

no_real : (row : Row) (c : ℕ) → bit_at 0 c ≡ 1 → is_int (column row c) ≡ false
no_real row c bit = absurd (let e : 0 ≡ 1 = sym (bit_at-zero c) ∙ bit in omega (arith, e))

visit_stored : (visit : VisitRow) → IsVisitRow visit → IsStorable 0 (stored_visit visit)
visit_stored visit fits = record {
  typed = no_real (stored_visit visit);
  columns = (omega arith, omega arith);
  numbers = All-from_recursion (λ v. NotNan (number v)) (stored_visit visit) (a_number visit.number, (zero_is, (a_number visit.day, (zero_is, tt))));
  short = omega (arith, fits.short);
}

test_stored : (place : ℕ) (test : TestRow) → IsTestRow test → IsStorable 0 (stored_test place test)
test_stored place test fits = record {
  typed = no_real (stored_test place test);
  columns = (omega arith, omega arith);
  numbers = All-from_recursion (λ v. NotNan (number v)) (stored_test place test) (a_number place, (a_number test.visit, (zero_is, tt)));
  short = omega (arith, fits.short);
}

entry_stored : (place : ℕ) (test : TestRow) → IsTestRow test → IsStorable 0 (entry_of (1 ∷ 2 ∷ []) (stored_test place test))
entry_stored place test fits = record {
  typed = no_real (entry_of (1 ∷ 2 ∷ []) (stored_test place test));
  columns = (omega arith, omega arith);
  numbers = All-from_recursion (λ v. NotNan (number v)) (entry_of (1 ∷ 2 ∷ []) (stored_test place test)) (a_number test.visit, (zero_is, (a_number place, tt)));
  short = omega (arith, fits.short);
}

visit_small : (visit : VisitRow) → IsVisitRow visit → IsOversized register_schema visits_table (stored_visit visit) → ⊥
visit_small visit fits (inl big) = big (visit_stored visit fits, omega arith)
visit_small visit fits (inr (index, inl is, of_visits, big)) = absurd (let e : 1 ≡ 0 = sym (ap (λ i. i.table) is) ∙ of_visits in omega (arith, e))
visit_small visit fits (inr (index, inr none, of_visits, big)) = absurd none

test_small : (place : ℕ) (test : TestRow) → IsTestRow test → IsOversized register_schema tests_table (stored_test place test) → ⊥
test_small place test fits (inl big) = big (test_stored place test fits, omega arith)
test_small place test fits (inr (index, inl is, of_tests, big)) =
    big (subst (λ (i : Index). IsStorable (index_reals 0 i.columns) (entry_of i.columns (stored_test place test))) (sym is) (entry_stored place test fits))
test_small place test fits (inr (index, inr none, of_tests, big)) = absurd none

-- ---- no key stands twice

each : {X : Type 0} (P : X → Type 0) → ((x : X) → P x) → (xs : List X) → AllByRecursion P xs
each P all [] = tt
each P all (x ∷ xs) = (all x, each P all xs)

each_then : {X : Type 0} (P Q : X → Type 0) → ((x : X) → P x → Q x) → (xs : List X) → AllByRecursion P xs → AllByRecursion Q xs
each_then P Q then_so [] h = tt
each_then P Q then_so (x ∷ xs) h = (then_so x h.0, each_then P Q then_so xs h.1)

tests_unique : (trees : Trees) (tests : List TestRow) → trees 1 ≡ stored_tests 1 tests → are_distinct_tests tests ≡ true → Keeps Unique register_schema trees
tests_unique trees tests are distinct =
    let alone = subst (λ rows. AllByRecursion (λ row. clashes plain (1 ∷ 2 ∷ []) rows row ≡ false) rows) (sym are) (none_clashes 1 tests distinct) in (
      each (λ row. passes Unique register_schema trees visits_table row ≡ true) (λ row. refl) (trees 0),
      (each_then (λ row. clashes plain (1 ∷ 2 ∷ []) (trees 1) row ≡ false) (λ row. passes Unique register_schema trees tests_table row ≡ true) (λ row none. rw none refl) (trees 1) alone, tt),
    )

not_taken_visit : (visit : VisitRow) (visits : List VisitRow) → visit_numbered visit.number visits ≡ None → is_taken (map stored_visit visits) (stored_visit visit) ≡ false
not_taken_visit visit [] none = refl
not_taken_visit visit (other ∷ rest) none =
    let passed = passed_over (other.number == visit.number) other (visit_numbered visit.number rest) none in
    let apart : is_eq (value_cmp (Int (pos other.number)) (Int (pos visit.number))) ≡ false = ap is_eq (numbers_cmp other.number visit.number) ∙ unsigned_tied other.number visit.number ∙ passed.0 in
    rw apart (not_taken_visit visit rest passed.1)
  where
    passed_over : {X : Type 0} (b : Bool) (x : X) (o : Option X) → (Rattle.std.specs.Prelude.if◌then◌else◌ b (Some x) o) ≡ None → (b ≡ false) × (o ≡ None)
    passed_over true x o none = absurd (none-some x (sym none))
    passed_over false x o none = (refl, none)

not_taken_test : (place last : ℕ) (tests : List TestRow) (test : TestRow) → place + length tests ≤ last → is_taken (stored_tests place tests) (stored_test last test) ≡ false
not_taken_test place last [] test low = refl
not_taken_test place last (other ∷ rest) test low =
    let apart : is_eq (value_cmp (Int (pos place)) (Int (pos last))) ≡ false = ap is_eq (numbers_cmp place last) ∙ unsigned_tied place last ∙ apart_number place last (omega (arith, low)) in
    rw apart (not_taken_test (place + 1) last rest test (omega (arith, low)))

-- ---- the two rows pass

module _ (old : State) (register : IsRegister old) where
  abbrev trees : Trees
  trees = old.now.trees

  visit_passes : (params : Row) (visit : VisitRow) → IsVisitRow visit → PassesRules (visits_task old.step_limit (mode_of old) params) (stored_visit visit) trees
  visit_passes params visit fits = record {
    cast = visit_cast visit;
    int = refl;
    typed = refl;
    present = refl;
    checked = refl;
    fresh = λ free. subst (λ rows. is_taken rows (stored_visit visit) ≡ false) (sym register.visits)
        (not_taken_visit visit _ (none_found visit _ (λ row has. free row (subst (λ rows. Has rows row) (sym register.visits) has))));
    unique = λ free. tests_unique (with_tree trees 0 (put_row (stored_visit visit) (trees 0))) (tables_in trees).tests register.tests register.distinct.tests;
    referred = refl;
    small = visit_small visit fits;
    alone = λ news. refl;
  }

  test_passes : (params : Row) (test : TestRow) → IsTestRow test → (place : ℕ) → place ≡ 1 + length (tables_in trees).tests
      → PassesRules (tests_task old.step_limit (mode_of old) params) (stored_test place test) trees
  test_passes params test fits place is = record {
    cast = test_cast place test;
    int = refl;
    typed = refl;
    present = refl;
    checked = refl;
    fresh = λ free. subst (λ rows. is_taken rows (stored_test place test) ≡ false) (sym register.tests) (not_taken_test 1 place _ test (omega (arith, is)));
    unique = λ free.
        let tests = (tables_in trees).tests in
        let none = no_test 1 place tests test (λ row has. free row (subst (λ rows. Has rows row) (sym register.tests) has)) in
        let rows_are = ap (put_row (stored_test place test)) register.tests ∙ put_last 1 place tests test is in
        tests_unique (with_tree trees 1 (put_row (stored_test place test) (trees 1))) (tests ++ test ∷ []) rows_are (distinct_tests_with tests test register.distinct.tests none);
    referred = refl;
    small = test_small place test fits;
    alone = λ news. refl;
  }

-- ---- a text that puts a row

abbrev visit_insert : Command
visit_insert = InsertOr 0 Abort (Values visit_terms 4) do_nothing

abbrev test_insert : Command
test_insert = InsertOr 1 Abort (Values test_terms 3) do_nothing

abbrev visit_statement : List ℕ
visit_statement = statement_of insert_visit_text (understood register_schema insert_visit_text)

abbrev test_statement : List ℕ
test_statement = statement_of insert_test_text (understood register_schema insert_test_text)

no_keys_lost : (db : Trees) → Refers AllKeys register_schema db
no_keys_lost db = (each (λ row. true ≡ true) (λ row. refl) (db 0), (each (λ row. true ≡ true) (λ row. refl) (db 1), tt))

placed : (old : State) (at : ℕ) (from : Source) (e : Error) → IsMisplaced old (InsertOr at Abort from do_nothing) e → ⊥
placed old at from e (inl (named, inl (is, on))) = absurd (let k = is in cc)
placed old at from e (inl (named, inr (inl is, off))) = absurd (let k = is in cc)
placed old at from e (inl (named, inr (inr is, off))) = absurd (let k = is in cc)
placed old at from e (inr (named, name, inl is, none)) = absurd (let k = is in cc)
placed old at from e (inr (named, name, inr is, none)) = absurd (let k = is in cc)

never_some : (limit : Option ℕ) → limit ≡ None → IsSome limit → ⊥
never_some None is some = absurd (let e = some in cc)
never_some (Some n) is some = absurd cc

module _ (old : State) (unlimited : old.step_limit ≡ None) (db : Trees) (text : List ℕ) (Refuses : Error → Type 0) where
  abbrev visit_source : VisitRow → Row
  visit_source visit = Int (pos visit.number) ∷ Null ∷ Int (pos visit.day) ∷ Text visit.engineer ∷ []

  abbrev test_source : TestRow → Row
  test_source test = Null ∷ Int (pos test.visit) ∷ Text test.point ∷ []

  visit_stops : (visit : VisitRow)
      → ((stop : Option Error) → Tries (visits_task old.step_limit (mode_of old) (visit_params visit)) Abort do_nothing (stored_visit visit) db (Err stop) → StopsAt Refuses stop)
      → (stop : Option Error)
      → Does old.step_limit (mode_of old) (visit_params visit) (record { schema = register_schema; trees = db }) text None visit_insert (Err stop) → StopsAt Refuses stop
  visit_stops visit trial stop (inr (w, done, inl (why, tested, is))) = absurd (tested.0 (no_keys_lost w.trees))
  visit_stops visit trial stop (inr (w, done, inr (doubt, tested, inl (why, gives, is)))) = absurd (let e = gives in cc)
  visit_stops visit trial stop (inr (w, done, inr (doubt, tested, inr (rows, gives, more)))) = absurd (let e = more in cc)
  visit_stops visit trial stop (inl (why, inl (None, sourced, same), is)) = absurd sourced
  visit_stops visit trial stop (inl (why, inl (Some e, inl (named, untyped), same), is)) = absurd (let k : true ≡ false = untyped in cc)
  visit_stops visit trial stop (inl (why, inl (Some e, inr (named, some), same), is)) = absurd (never_some old.step_limit unlimited some)
  visit_stops visit trial stop (inl (why, inr (rows, given, inl (cause, counter, same)), is)) = absurd (let e = counter in cc)
  visit_stops visit trial stop (inl (why, inr (rows, given, inr (counter, c, inr (done, d, inl (cause, counts, same)))), is)) = absurd (let e = counts in cc)
  visit_stops visit trial stop (inl (why, inr (rows, given, inr (counter, c, inr (done, d, inr (next, counts, gives)))), is)) = absurd (let e = gives in cc)
  visit_stops visit trial stop (inl (why, inr (rows, given, inr (counter, c, inl (cause, tried, same))), is)) =
      stopped_so Refuses is (stopped_so Refuses same
      (first (subst (λ rows. TriesEach (visits_task old.step_limit (mode_of old) (visit_params visit)) Abort do_nothing rows (count_of counter) (nothing db) (Err cause)) given.1 tried)))
    where
      first : TriesEach (visits_task old.step_limit (mode_of old) (visit_params visit)) Abort do_nothing (visit_source visit ∷ []) (count_of counter) (nothing db) (Err cause) → StopsAt Refuses cause
      first (inr (one, put, gives)) = absurd (let e = gives in cc)
      first (inl (why, tries, same)) =
          stopped_so Refuses same (trial why (subst (λ new. Tries (visits_task old.step_limit (mode_of old) (visit_params visit)) Abort do_nothing new db (Err why))
          (ap (with_rowid Chosen (db 0)) (visit_cast visit)) tries))

  test_stops : (test : TestRow) (place : ℕ) → next_rowid (db 1) ≡ pos place
      → ((stop : Option Error) → Tries (tests_task old.step_limit (mode_of old) (test_params test)) Abort do_nothing (stored_test place test) db (Err stop) → StopsAt Refuses stop)
      → (stop : Option Error)
      → Does old.step_limit (mode_of old) (test_params test) (record { schema = register_schema; trees = db }) text None test_insert (Err stop) → StopsAt Refuses stop
  test_stops test place next trial stop (inr (w, done, inl (why, tested, is))) = absurd (tested.0 (no_keys_lost w.trees))
  test_stops test place next trial stop (inr (w, done, inr (doubt, tested, inl (why, gives, is)))) = absurd (let e = gives in cc)
  test_stops test place next trial stop (inr (w, done, inr (doubt, tested, inr (rows, gives, more)))) = absurd (let e = more in cc)
  test_stops test place next trial stop (inl (why, inl (None, sourced, same), is)) = absurd sourced
  test_stops test place next trial stop (inl (why, inl (Some e, inl (named, untyped), same), is)) = absurd (let k : true ≡ false = untyped in cc)
  test_stops test place next trial stop (inl (why, inl (Some e, inr (named, some), same), is)) = absurd (never_some old.step_limit unlimited some)
  test_stops test place next trial stop (inl (why, inr (rows, given, inl (cause, counter, same)), is)) = absurd (let e = counter in cc)
  test_stops test place next trial stop (inl (why, inr (rows, given, inr (counter, c, inr (done, d, inl (cause, counts, same)))), is)) = absurd (let e = counts in cc)
  test_stops test place next trial stop (inl (why, inr (rows, given, inr (counter, c, inr (done, d, inr (next_trees, counts, gives)))), is)) = absurd (let e = gives in cc)
  test_stops test place next trial stop (inl (why, inr (rows, given, inr (counter, c, inl (cause, tried, same))), is)) =
      stopped_so Refuses is (stopped_so Refuses same
      (first (subst (λ rows. TriesEach (tests_task old.step_limit (mode_of old) (test_params test)) Abort do_nothing rows (count_of counter) (nothing db) (Err cause)) given.1 tried)))
    where
      first : TriesEach (tests_task old.step_limit (mode_of old) (test_params test)) Abort do_nothing (test_source test ∷ []) (count_of counter) (nothing db) (Err cause) → StopsAt Refuses cause
      first (inr (one, put, gives)) = absurd (let e = gives in cc)
      first (inl (why, tries, same)) =
          stopped_so Refuses same (trial why (subst (λ new. Tries (tests_task old.step_limit (mode_of old) (test_params test)) Abort do_nothing new db (Err why))
          (ap (with_rowid Chosen (db 1)) (test_source_cast test) ∙ ap (λ id. Int id ∷ Int (pos test.visit) ∷ Text test.point ∷ []) next) tries))

module _ (old new : State) (it : IsSteadily old new) (register : IsRegister old) where
  -- a refusal is that of a part
  of_some : (Refuses : Error → Type 0) (e : Error) → StopsAt Refuses (Some e) → Refuses e
  of_some Refuses e at = subst Refuses (let same = at.1 in cc) at.2

  of_none : (Refuses : Error → Type 0) → StopsAt Refuses None → ⊥
  of_none Refuses at = none-some at.0 at.1

  abbrev IsWant : Error → Type 0
  IsWant e = e ≡ SqliteFailure OutOfMemory

  pub visit_wants : (visit : VisitRow) → IsVisitRow visit → (e : Error) → Executes insert_visit_text (visit_params visit) old new (Err e) → e ≡ SqliteFailure OutOfMemory
  visit_wants visit fits e h =
      executes old new it insert_visit_text (visit_params visit) register_schema register.schema _ insert_visit_command insert_visit_plain insert_visit_whole IsWant refl refl
      (placed old 0 (Values visit_terms 4)) (λ e done. of_some IsWant e (stops (Some e) done)) (λ done. of_none IsWant (stops None done)) e h
    where
      wide : fits_i64 (pos visit.number) ≡ false → ⊥
      wide isnt = let over = ltb-false visit.number (2 ^ 63) isnt in omega (arith, over, fits.number)

      stops : (stop : Option Error) → Does old.step_limit (mode_of old) (visit_params visit) old.now visit_statement None visit_insert (Err stop) → StopsAt IsWant stop
      stops stop done =
          visit_stops old register.unlimited old.now.trees visit_statement IsWant visit
          (tries (visits_task old.step_limit (mode_of old) (visit_params visit)) (stored_visit visit) old.now.trees
          (visit_passes old register (visit_params visit) visit fits) IsWant (λ isnt. absurd (wide isnt))) stop
          (subst (λ s. Does old.step_limit (mode_of old) (visit_params visit) (record old.now { schema = s }) visit_statement None visit_insert (Err stop)) register.schema done)

  abbrev test_place : ℕ
  test_place = 1 + length (tables_in old.now.trees).tests

  abbrev RefusesPut : Error → Type 0
  RefusesPut e = RefusesTest (tables_in old.now.trees).tests (trouble.Text e)

  pub test_wants : (test : TestRow) → IsTestRow test → (e : Error) → Executes insert_test_text (test_params test) old new (Err e) → RefusesTest (tables_in old.now.trees).tests (trouble.Text e)
  test_wants test fits e h =
      executes old new it insert_test_text (test_params test) register_schema register.schema _ insert_test_command insert_test_plain insert_test_whole RefusesPut (inl refl) refl
      (placed old 1 (Values test_terms 3)) (λ e done. of_some RefusesPut e (stops (Some e) done)) (λ done. of_none RefusesPut (stops None done)) e h
    where
      wide : fits_i64 (pos test_place) ≡ false → RefusesPut (SqliteFailure NoRowid)
      wide isnt = let over = ltb-false test_place (2 ^ 63) isnt in inr (refl, omega (arith, over))

      next : next_rowid (old.now.trees 1) ≡ pos test_place
      next = ap next_rowid register.tests ∙ next_place 1 (tables_in old.now.trees).tests

      stops : (stop : Option Error) → Does old.step_limit (mode_of old) (test_params test) old.now test_statement None test_insert (Err stop) → StopsAt RefusesPut stop
      stops stop done =
          test_stops old register.unlimited old.now.trees test_statement RefusesPut test test_place next
          (tries (tests_task old.step_limit (mode_of old) (test_params test)) (stored_test test_place test) old.now.trees
          (test_passes old register (test_params test) test fits test_place refl) RefusesPut wide) stop
          (subst (λ s. Does old.step_limit (mode_of old) (test_params test) (record old.now { schema = s }) test_statement None test_insert (Err stop)) register.schema done)

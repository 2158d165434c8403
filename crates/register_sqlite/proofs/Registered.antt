-- A register that a visit or a test was put into is one still, and has it.
use Rattle.std.proofs.Common.{◌≡◌, ◌≢◌, ◌⊎◌, inl, inr, ℕ, ◌+◌, pos, Bool, true, false, cond, List, [], ◌∷◌, ◌++◌, length, map, Some, None, Ok, Option, Result, refl, sym, ap, subst, ◌∙◌, arith, IsTrue}
use Rattle.std.specs.List.{AllByRecursion}
use Rattle.sqlite_value.specs.Order.{Row}
use Rattle.sqlite_schema.specs.declared.command.Conflict.TheVariants.{Abort}
use Rattle.sqlite_schema.specs.declared.command.Command.TheVariants.{InsertOr}
use Rattle.sqlite_schema.specs.declared.command.Source.TheVariants.{Values}
use Rattle.sqlite_rules.specs.Edit.{next_rowid}
use Rattle.sqlite_rules.specs.Lists.{Has}
use Rattle.sqlite_trees.specs.Tree.{put_row}
use Rattle.sqlite.specs.Does.{Does}
use Rattle.sqlite.specs.Effect.{Database}
use Rattle.sqlite.specs.Listing.{understood}
use Rattle.sqlite.specs.Rows.{Written}
use Rattle.sqlite.specs.State.{Executes, State, mode_of}
use Rattle.sqlite.specs.Tree.{Trees}
use Rattle.sqlite.proofs.Callers.{runs_as, statement_of}
use Rattle.service_keepers.specs.Keeping.{PutsTest, PutsVisit}
use Rattle.service_keepers.specs.Tables.{AreDistinct, Tables, TestRow, VisitRow, are_distinct_tests, have_distinct_numbers, visit_numbered}
use Rattle.register_sqlite.specs.Schema.{register_schema}
use Rattle.register_sqlite.specs.Values.{IsTestRow, IsVisitRow}
use Rattle.register_sqlite.specs.Stored.{IsRegister, stored_test, stored_tests, stored_visit, tables_in, test_in, visit_in}
use Rattle.register_sqlite.specs.Texts.{insert_test_text, insert_visit_text, test_params, visit_params}
use Rattle.register_sqlite.proofs.Inserted.{test_cast, test_written, tests_task, visit_cast, visit_written, visits_task}
use Rattle.register_sqlite.proofs.Kept.{distinct_numbers_with, distinct_tests_with, found_test, found_visit, next_place, no_test, none_found, put_among, put_last, unstored_tests, unstored_visits}
use Rattle.register_sqlite.proofs.Parts.{PassesOver, PutsRow, do_nothing}
use Rattle.register_sqlite.proofs.Understood.{insert_test_command, insert_test_plain, insert_visit_command, insert_visit_plain, test_terms, visit_terms}

-- what is committed after a text outside of a transaction
committed_now : (old new : State) (b : Bool) → b ≡ false → new.committed ≡ cond b old.committed new.now → new.committed ≡ new.now
committed_now old new true is e = absurd (let clash : true ≡ false = is in cc)
committed_now old new false is e = e

all_with : {X : Type 0} (P : X → Type 0) (x : X) (front back : List X) → AllByRecursion P (front ++ back) → P x → AllByRecursion P (front ++ x ∷ back)
all_with P x [] back all is = (is, all)
all_with P x (y ∷ front) back all is = (all.0, all_with P x front back all.1 is)

module _ (old new : State) (register : IsRegister old) (one : Written) (now : new.now ≡ record { schema = register_schema; trees = one.trees })
    (committed : new.committed ≡ new.now) (autocommit : new.in_transaction ≡ false) (limit : new.step_limit ≡ old.step_limit) where
  db : Trees
  db = old.now.trees

  before : Tables
  before = tables_in old.now.trees

  abbrev trees_are : new.now.trees ≡ one.trees
  trees_are = ap (λ (d : Database). d.trees) now

  -- where nothing was put
  same_register : one.trees ≡ old.now.trees → IsRegister new × (tables_in new.now.trees ≡ tables_in old.now.trees)
  same_register same =
      let trees : new.now.trees ≡ old.now.trees = trees_are ∙ same in (
        record {
          schema = ap (λ (d : Database). d.schema) now;
          settled = committed;
          autocommit = autocommit;
          visits = subst (λ (t : Trees). t 0 ≡ map stored_visit (tables_in t).visits) (sym trees) register.visits;
          tests = subst (λ (t : Trees). t 1 ≡ stored_tests 1 (tables_in t).tests) (sym trees) register.tests;
          distinct = subst (λ (t : Trees). AreDistinct (tables_in t)) (sym trees) register.distinct;
          of_visits = subst (λ (t : Trees). AllByRecursion IsVisitRow (tables_in t).visits) (sym trees) register.of_visits;
          of_tests = subst (λ (t : Trees). AllByRecursion IsTestRow (tables_in t).tests) (sym trees) register.of_tests;
          unlimited = limit ∙ register.unlimited;
        },
        ap tables_in trees,
      )

  -- where the tables are these rows now
  other_register : (visits : List VisitRow) (tests : List TestRow) → one.trees 0 ≡ map stored_visit visits → one.trees 1 ≡ stored_tests 1 tests
      → have_distinct_numbers visits ≡ true → are_distinct_tests tests ≡ true → AllByRecursion IsVisitRow visits → AllByRecursion IsTestRow tests
      → IsRegister new × ((tables_in new.now.trees).visits ≡ visits) × ((tables_in new.now.trees).tests ≡ tests)
  other_register visits tests first second numbers pairs of_visits of_tests =
      let first_now : new.now.trees 0 ≡ map stored_visit visits = ap (λ (t : Trees). t 0) trees_are ∙ first in
      let second_now : new.now.trees 1 ≡ stored_tests 1 tests = ap (λ (t : Trees). t 1) trees_are ∙ second in
      let are_visits : (tables_in new.now.trees).visits ≡ visits = ap (map visit_in) first_now ∙ unstored_visits visits in
      let are_tests : (tables_in new.now.trees).tests ≡ tests = ap (map test_in) second_now ∙ unstored_tests 1 tests in (
        record {
          schema = ap (λ (d : Database). d.schema) now;
          settled = committed;
          autocommit = autocommit;
          visits = first_now ∙ ap (map stored_visit) (sym are_visits);
          tests = second_now ∙ ap (stored_tests 1) (sym are_tests);
          distinct = record { visits = ap have_distinct_numbers are_visits ∙ numbers; tests = ap are_distinct_tests are_tests ∙ pairs };
          of_visits = subst (AllByRecursion IsVisitRow) (sym are_visits) of_visits;
          of_tests = subst (AllByRecursion IsTestRow) (sym are_tests) of_tests;
          unlimited = limit ∙ register.unlimited;
        },
        are_visits,
        are_tests,
      )

  pub visit_put : (params : Row) (visit : VisitRow) → IsVisitRow visit
      → PassesOver (visits_task old.step_limit (mode_of old) params) (stored_visit visit) old.now.trees one
      ⊎ PutsRow (visits_task old.step_limit (mode_of old) params) (stored_visit visit) old.now.trees one
      → IsRegister new × PutsVisit visit (tables_in old.now.trees) (tables_in new.now.trees)
  visit_put params visit fits (inl over) =
      let kept = found_visit visit (tables_in old.now.trees).visits over.there (subst (λ rows. Has rows over.there) register.visits over.has) over.conflicts_it in
      let same = same_register (ap (λ (w : Written). w.trees) over.same) in
      (same.0, rw kept.1 same.1)
  visit_put params visit fits (inr put) =
      let visits = (tables_in old.now.trees).visits in
      let none = none_found visit visits (λ row has. put.free row (subst (λ rows. Has rows row) (sym register.visits) has)) in
      let among = put_among visit visits none in
      let row_is = ap (λ row. put_row row (old.now.trees 0)) (visit_cast visit) ∙ ap (put_row (stored_visit visit)) register.visits ∙ among.rows in
      let others : one.trees 1 ≡ old.now.trees 1 = put.applies.tables.1.0 (λ e. omega (arith, e)) in
      let apart = subst (λ xs. visit_numbered visit.number xs ≡ None) among.before none in
      let numbers = distinct_numbers_with visit among.front among.back (subst (λ xs. have_distinct_numbers xs ≡ true) among.before register.distinct.visits) apart in
      let all = other_register (among.front ++ visit ∷ among.back) (tables_in old.now.trees).tests (put.applies.rows ∙ row_is) (others ∙ register.tests) numbers register.distinct.tests
      (all_with IsVisitRow visit among.front among.back (subst (AllByRecursion IsVisitRow) among.before register.of_visits) fits) register.of_tests in
      (all.0, rw none (record { visits = record { front = among.front; back = among.back; before = among.before; after = all.1 }; tests = all.2 }))

  pub test_put : (params : Row) (test : TestRow) → IsTestRow test → (place : ℕ) → place ≡ 1 + length (tables_in old.now.trees).tests
      → PassesOver (tests_task old.step_limit (mode_of old) params) (stored_test place test) old.now.trees one
      ⊎ PutsRow (tests_task old.step_limit (mode_of old) params) (stored_test place test) old.now.trees one
      → IsRegister new × PutsTest test (tables_in old.now.trees) (tables_in new.now.trees)
  test_put params test fits place is (inl over) =
      let tests = (tables_in old.now.trees).tests in
      let kept = found_test 1 place tests test over.there (omega (arith, is)) (subst (λ rows. Has rows over.there) register.tests over.has) over.conflicts_it in
      let same = same_register (ap (λ (w : Written). w.trees) over.same) in
      (same.0, rw kept same.1)
  test_put params test fits place is (inr put) =
      let tests = (tables_in old.now.trees).tests in
      let none = no_test 1 place tests test (λ row has. put.free row (subst (λ rows. Has rows row) (sym register.tests) has)) in
      let row_is = ap (λ row. put_row row (old.now.trees 1)) (test_cast place test) ∙ ap (put_row (stored_test place test)) register.tests ∙ put_last 1 place tests test is in
      let others : one.trees 0 ≡ old.now.trees 0 = put.applies.tables.0 (λ e. omega (arith, e)) in
      let pairs = distinct_tests_with tests test register.distinct.tests none in
      let all = other_register (tables_in old.now.trees).visits (tests ++ test ∷ []) (others ∙ register.visits) (put.applies.rows ∙ row_is) register.distinct.visits pairs
      register.of_visits (all_with IsTestRow test tests [] (subst (AllByRecursion IsTestRow) (append_none tests) register.of_tests) fits) in
      (all.0, rw none (record { visits = all.1; tests = record { front = tests; back = []; before = append_none tests; after = all.2 } }))
    where
      append_none : (xs : List TestRow) → xs ≡ xs ++ []
      append_none xs = sym (Rattle.std.proofs.Common.append-nil xs)

module _ (old new : State) (register : IsRegister old) (limit : new.step_limit ≡ old.step_limit) (count : ℕ) where
  pub visit_registered : (visit : VisitRow) → IsVisitRow visit → Executes insert_visit_text (visit_params visit) old new (Ok count)
      → IsRegister new × PutsVisit visit (tables_in old.now.trees) (tables_in new.now.trees)
  visit_registered visit fits h =
      let params = visit_params visit in
      let command = InsertOr 0 Abort (Values visit_terms 4) do_nothing in
      let text = statement_of insert_visit_text (understood register_schema insert_visit_text) in
      let w = runs_as insert_visit_text params old new register_schema register.schema command insert_visit_command insert_visit_plain count h in
      let does = subst (λ s. Does old.step_limit (mode_of old) params (record old.now { schema = s }) text None command (Ok (w.tally, new.now))) register.schema w.changed in
      let it = visit_written old.step_limit (mode_of old) old.now.trees text w.tally new.now visit does in
      let committed = committed_now old new old.in_transaction register.autocommit w.shown.committed_is in
      visit_put old new register it.0 it.2 committed (w.shown.mode ∙ register.autocommit) limit params visit fits it.1

  pub test_registered : (test : TestRow) → IsTestRow test → Executes insert_test_text (test_params test) old new (Ok count)
      → IsRegister new × PutsTest test (tables_in old.now.trees) (tables_in new.now.trees)
  test_registered test fits h =
      let params = test_params test in
      let command = InsertOr 1 Abort (Values test_terms 3) do_nothing in
      let text = statement_of insert_test_text (understood register_schema insert_test_text) in
      let w = runs_as insert_test_text params old new register_schema register.schema command insert_test_command insert_test_plain count h in
      let does = subst (λ s. Does old.step_limit (mode_of old) params (record old.now { schema = s }) text None command (Ok (w.tally, new.now))) register.schema w.changed in
      let place = 1 + length (tables_in old.now.trees).tests in
      let next : next_rowid (old.now.trees 1) ≡ pos place = ap next_rowid register.tests ∙ next_place 1 (tables_in old.now.trees).tests in
      let it = test_written old.step_limit (mode_of old) old.now.trees text w.tally new.now test does place next in
      let committed = committed_now old new old.in_transaction register.autocommit w.shown.committed_is in
      test_put old new register it.0 it.2 committed (w.shown.mode ∙ register.autocommit) limit params test fits place refl it.1

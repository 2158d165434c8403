-- What the two texts that make the tables make of an empty database.
use Rattle.std.proofs.Common.{◌≡◌, ℕ, Bool, true, false, cond, [], map, None, Ok, refl, sym, ap, subst, ◌∙◌}
use Rattle.sqlite_schema.specs.declared.command.Command.TheVariants.{CreateTable}
use Rattle.sqlite.specs.Change.{created, next_tree}
use Rattle.sqlite.specs.Does.{Tally, lacks_sequence}
use Rattle.sqlite.specs.Effect.{Database}
use Rattle.sqlite.specs.State.{Executes, State}
use Rattle.sqlite.specs.Tree.{Trees}
use Rattle.sqlite_catalog.specs.Change.{KeepsRows}
use Rattle.sqlite.proofs.Callers.{runs_as}
use Rattle.std.specs.List.{AllByRecursion}
use Rattle.service_keepers.specs.Tables.{AreDistinct, Tables, no_tables}
use Rattle.register_sqlite.specs.Values.{IsTestRow, IsVisitRow}
use Rattle.register_sqlite.specs.Schema.{no_schema, register_schema, tests_table, visits_table}
use Rattle.register_sqlite.specs.Stored.{IsRegister, stored_tests, stored_visit, tables_in, test_in, visit_in}
use Rattle.register_sqlite.specs.Texts.{create_tests_text, create_visits_text}
use Rattle.register_sqlite.proofs.Parts.{same_value, went}
use Rattle.register_sqlite.proofs.Understood.{tests_command, tests_defined, tests_made, tests_plain, visits_command, visits_defined, visits_made, visits_plain, visits_schema}

committed_now : (old new : State) (b : Bool) → b ≡ false → new.committed ≡ cond b old.committed new.now → new.committed ≡ new.now
committed_now old new true is e = absurd (let clash : true ≡ false = is in cc)
committed_now old new false is e = e

-- the first table is there and empty, and nothing waits to be committed
pub record HasVisits (s : State) : Type 0 where
  pub schema : s.now.schema ≡ visits_schema
  pub empty : s.now.trees 0 ≡ []
  pub settled : s.committed ≡ s.now
  pub autocommit : s.in_transaction ≡ false
  pub unlimited : s.step_limit ≡ None

pub visits_created : (old new : State) (count : ℕ) → old.now.schema ≡ no_schema → old.in_transaction ≡ false → new.step_limit ≡ None → Executes create_visits_text [] old new (Ok count) → HasVisits new
visits_created old new count has autocommit unlimited h =
    let w = runs_as create_visits_text [] old new no_schema has CreateTable visits_command visits_plain count h in
    let all = went w.changed in
    let first = went all.1 in
    let made = first.1 in
    let both : Ok made.table ≡ Ok visits_table = sym made.defined ∙ visits_defined in
    let same : made.table ≡ visits_table = same_value both in
    let schema : first.0.schema ≡ visits_schema = made.is ∙ ap (λ s. created s made.table) has ∙ ap (created no_schema) same ∙ visits_made in
    let plain : lacks_sequence first.0.schema ≡ false = ap lacks_sequence schema in
    let now : new.now ≡ first.0 = ap (λ (p : Tally × Database). p.1) (same_value all.2) ∙ same_value (rw plain at first.2) in
    record {
      schema = ap (λ (d : Database). d.schema) now ∙ schema;
      empty = ap (λ (d : Database). d.trees 0) now ∙ subst (λ s. first.0.trees (next_tree s) ≡ []) has made.empty;
      settled = committed_now old new old.in_transaction autocommit w.shown.committed_is;
      autocommit = w.shown.mode ∙ autocommit;
      unlimited = unlimited;
    }

both_empty : (trees : Trees) → trees 0 ≡ [] → trees 1 ≡ [] → tables_in trees ≡ no_tables
both_empty trees first second =
    ap (λ rows. record { visits = map visit_in rows; tests = map test_in (trees 1) }) first
    ∙ ap (λ rows. record { visits = []; tests = map test_in rows }) second

pub tests_created : (old new : State) (count : ℕ) → HasVisits old → new.step_limit ≡ old.step_limit → Executes create_tests_text [] old new (Ok count)
    → IsRegister new × (tables_in new.now.trees ≡ no_tables)
tests_created old new count has limit h =
    let w = runs_as create_tests_text [] old new visits_schema has.schema CreateTable tests_command tests_plain count h in
    let all = went w.changed in
    let first = went all.1 in
    let made = first.1 in
    let both : Ok made.table ≡ Ok (record tests_table { tree = 0 }) = sym made.defined ∙ tests_defined in
    let same : made.table ≡ record tests_table { tree = 0 } = same_value both in
    let schema : first.0.schema ≡ register_schema = made.is ∙ ap (λ s. created s made.table) has.schema ∙ ap (created visits_schema) same ∙ tests_made in
    let plain : lacks_sequence first.0.schema ≡ false = ap lacks_sequence schema in
    let now : new.now ≡ first.0 = ap (λ (p : Tally × Database). p.1) (same_value all.2) ∙ same_value (rw plain at first.2) in
    let kept = subst (λ s. KeepsRows s.tables old.now.trees first.0.trees) has.schema made.others in
    let no_visits : new.now.trees 0 ≡ [] = ap (λ (d : Database). d.trees 0) now ∙ kept.0 ∙ has.empty in
    let no_tests : new.now.trees 1 ≡ [] = ap (λ (d : Database). d.trees 1) now ∙ subst (λ s. first.0.trees (next_tree s) ≡ []) has.schema made.empty in
    let none : tables_in new.now.trees ≡ no_tables = both_empty new.now.trees no_visits no_tests in (
      record {
        schema = ap (λ (d : Database). d.schema) now ∙ schema;
        settled = committed_now old new old.in_transaction has.autocommit w.shown.committed_is;
        autocommit = w.shown.mode ∙ has.autocommit;
        visits = no_visits ∙ sym (ap (map stored_visit) (ap (λ t. t.visits) none));
        tests = no_tests ∙ sym (ap (stored_tests 1) (ap (λ t. t.tests) none));
        distinct = subst AreDistinct (sym none) (record { visits = refl; tests = refl });
        of_visits = subst (λ (t : Tables). AllByRecursion IsVisitRow t.visits) (sym none) tt;
        of_tests = subst (λ (t : Tables). AllByRecursion IsTestRow t.tests) (sym none) tt;
        unlimited = limit ∙ has.unlimited;
      },
      none,
    )

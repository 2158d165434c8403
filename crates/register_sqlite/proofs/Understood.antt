-- What the database reads in the six texts.
use Rattle.std.proofs.Common.{◌≡◌, pos, negsuc, List, [], ◌∷◌, codes, false, None, Ok, refl, ap, ◌++◌, arith}
use Rattle.std.proofs.lemmas.Fmt.{decimal_digit}
use Rattle.sqlite_value.specs.Keys.{ascending}
use Rattle.sqlite_value.specs.declared.keys.Collation.TheVariants.{Binary}
use Rattle.sqlite_value.specs.declared.value.Value.TheVariants.{Null, Int}
use Rattle.sqlite_sql.specs.declared.ops.BinaryOp.TheVariants.{Compare}
use Rattle.sqlite_sql.specs.declared.ops.CompareOp.TheVariants.{Eq}
use Rattle.sqlite_sql.specs.Term.{Term, lit, col, op2}
use Rattle.sqlite_sql.specs.Query.{Query, inner, end}
use Rattle.sqlite_schema.specs.declared.schema.Schema.{Schema}
use Rattle.sqlite_schema.specs.declared.command.Command.TheVariants.{InsertOr, Select, CreateTable}
use Rattle.sqlite_schema.specs.declared.command.Conflict.TheVariants.{Abort}
use Rattle.sqlite_schema.specs.declared.command.Source.TheVariants.{Values}
use Rattle.sqlite.specs.Compile.{table_defined_by}
use Rattle.sqlite.specs.Listing.{understood, reads_listing}
use Rattle.sqlite.proofs.Callers.{IsPlain, command_of, statement_of}
use Rattle.sqlite_catalog.specs.Change.{created}
use Rattle.sqlite_tied.specs.Compute.{everything}
use Rattle.register_sqlite.proofs.Parts.{do_nothing}
use Rattle.register_sqlite.proofs.Wanting.{IsWhole}
use Rattle.register_sqlite.specs.Schema.{no_schema, register_schema, tests_index, tests_table, visits_table}
use Rattle.register_sqlite.specs.Texts.{create_tests_text, create_visits_text, insert_test_text, insert_visit_text}
use Rattle.register_sqlite.specs.Texts.{select_tests_text, select_visit_text}

-- after the first text
abbrev pub visits_schema : Schema
visits_schema = record { tables = visits_table ∷ []; indexes = []; views = [] }

pub visits_command : command_of (understood no_schema create_visits_text) ≡ CreateTable
unfolding understood everything
visits_command = refl

pub visits_defined : table_defined_by (statement_of create_visits_text (understood no_schema create_visits_text)) ≡ Ok visits_table
unfolding understood everything
visits_defined = refl

pub tests_command : command_of (understood visits_schema create_tests_text) ≡ CreateTable
unfolding understood everything
tests_command = refl

pub tests_defined : table_defined_by (statement_of create_tests_text (understood visits_schema create_tests_text)) ≡ Ok (record tests_table { tree = 0 })
unfolding understood everything
tests_defined = refl

pub visits_made : created no_schema visits_table ≡ visits_schema
visits_made = refl

pub tests_made : created visits_schema (record tests_table { tree = 0 }) ≡ register_schema
tests_made =
    ap (λ digits. record register_schema { indexes = record tests_index { name = codes "sqlite_autoindex_" ++ (codes "tests" ++ (codes "_" ++ digits)) } ∷ [] })
    (decimal_digit 1 (omega arith))

-- ---- what is written

abbrev pub visit_terms : List Term
visit_terms = col 0 0 ∷ lit Null ∷ col 0 1 ∷ col 0 2 ∷ []

abbrev pub test_terms : List Term
test_terms = lit Null ∷ col 0 0 ∷ col 0 1 ∷ []

pub insert_visit_command : command_of (understood register_schema insert_visit_text) ≡ InsertOr 0 Abort (Values visit_terms 4) do_nothing
unfolding understood everything
insert_visit_command = refl

pub insert_test_command : command_of (understood register_schema insert_test_text) ≡ InsertOr 1 Abort (Values test_terms 3) do_nothing
unfolding understood everything
insert_test_command = refl

-- ---- what is read

abbrev pub visit_query : Query
visit_query = record {
  from = inner 0 end;
  filter = op2 (Compare Eq Binary) (col 1 0) (col 0 0) ∷ [];
  group = None;
  project = col 1 2 ∷ col 1 3 ∷ [];
  distinct = false;
  collations = [];
  order = [];
  limit = lit (Int (negsuc 0));
  offset = lit (Int (pos 0));
}

abbrev pub tests_query : Query
tests_query = record {
  from = inner 1 end;
  filter = op2 (Compare Eq Binary) (col 1 2) (col 0 0) ∷ [];
  group = None;
  project = col 1 1 ∷ [];
  distinct = false;
  collations = [];
  order = (col 1 1, ascending Binary) ∷ [];
  limit = lit (Int (negsuc 0));
  offset = lit (Int (pos 0));
}

pub select_visit_command : command_of (understood register_schema select_visit_text) ≡ Select (record { lets = []; body = visit_query }) (codes "day" ∷ codes "engineer" ∷ [])
unfolding understood everything
select_visit_command = refl

pub select_tests_command : command_of (understood register_schema select_tests_text) ≡ Select (record { lets = []; body = tests_query }) (codes "visit" ∷ [])
unfolding understood everything
select_tests_command = refl

-- ---- none of them reads the time or the list of tables, or gives back what it writes

pub visits_plain : IsPlain (understood no_schema create_visits_text)
unfolding understood everything
visits_plain = (refl, refl)

pub tests_plain : IsPlain (understood visits_schema create_tests_text)
unfolding understood everything
tests_plain = (refl, refl)

pub insert_visit_plain : IsPlain (understood register_schema insert_visit_text)
unfolding understood everything
insert_visit_plain = (refl, refl)

pub insert_test_plain : IsPlain (understood register_schema insert_test_text)
unfolding understood everything
insert_test_plain = (refl, refl)

pub select_visit_plain : IsPlain (understood register_schema select_visit_text)
unfolding understood everything
select_visit_plain = (refl, refl)

pub select_tests_plain : IsPlain (understood register_schema select_tests_text)
unfolding understood everything
select_tests_plain = (refl, refl)

pub select_visit_unlisted : reads_listing register_schema select_visit_text ≡ false
unfolding understood everything
select_visit_unlisted = refl

pub select_tests_unlisted : reads_listing register_schema select_tests_text ≡ false
unfolding understood everything
select_tests_unlisted = refl

-- ---- each is one statement

pub visits_whole : IsWhole create_visits_text 0 (understood no_schema create_visits_text)
unfolding understood everything
visits_whole = (refl, refl, refl)

pub tests_whole : IsWhole create_tests_text 0 (understood visits_schema create_tests_text)
unfolding understood everything
tests_whole = (refl, refl, refl)

pub insert_visit_whole : IsWhole insert_visit_text 3 (understood register_schema insert_visit_text)
unfolding understood everything
insert_visit_whole = (refl, refl, refl)

pub insert_test_whole : IsWhole insert_test_text 2 (understood register_schema insert_test_text)
unfolding understood everything
insert_test_whole = (refl, refl, refl)

pub select_visit_whole : IsWhole select_visit_text 1 (understood register_schema select_visit_text)
unfolding understood everything
select_visit_whole = (refl, refl, refl)

pub select_tests_whole : IsWhole select_tests_text 1 (understood register_schema select_tests_text)
unfolding understood everything
select_tests_whole = (refl, refl, refl)

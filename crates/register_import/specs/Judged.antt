-- Which row of a file is refused first, and the rows of a file in which none is.
use Rattle.std.specs.Prelude.{◌==◌, ◌&&◌, ◌||◌, ◌+◌, ◌++◌, ◌∷◌, [], ℕ, Bool, false, not, List, Option, Some, None}
use Rattle.std.specs.Prelude.{Result, Ok, Err, fold, if◌then◌else◌}
use Rattle.std.specs.Str.{bytes_eq}
use Rattle.csv.specs.Reading.{AreRecords, default_config, strip_bom}
use Rattle.csv.specs.declared.parser.State.TheVariants as st
use Rattle.register_import.specs.Rows.{ImportedTest, bad_form, four, is_header, other_visit, row_spelled, test_of_row}
use Rattle.service_keepers.specs.MemoryRows.{with_test, with_visit}
use Rattle.service_keepers.specs.Tables.{Tables, VisitRow, no_tables, visit_numbered}
use Rattle.site_types.specs.declared.site.Site.{Site}

-- the records of a file, the header among them, as the library `csv` reads them
abbrev pub HasRecords : List ℕ → List (List (List ℕ)) → Type 0
HasRecords bytes records = AreRecords default_config st.StartRecord (strip_bom bytes) records

-- ---- a visit against others

abbrev pub is_same_visit : VisitRow → VisitRow → Bool
is_same_visit visit other =
    (visit.number == other.number) && ((visit.day == other.day) && bytes_eq visit.engineer other.engineer)

abbrev pub differs : VisitRow → Option VisitRow → Bool
differs visit None = false
differs visit (Some other) = not (is_same_visit other visit)

-- whether another visit has the number
abbrev pub has_other : VisitRow → List VisitRow → Bool
has_other visit visits = differs visit (visit_numbered visit.number visits)

-- ---- row by row

-- the tables with the visit and the test of a row
abbrev pub with_row : Tables → ImportedTest → Tables
with_row tables row = with_test (test_of_row row) (with_visit row.visit tables)

-- the tables that rows fill
abbrev pub tables_of_rows : List ImportedTest → Tables
tables_of_rows rows = fold with_row no_tables rows

-- a row that spells something, by the tables of the rows before it and by what is kept
abbrev pub judged_by : Tables → Tables → Result ImportedTest ℕ → Result ImportedTest ℕ
judged_by kept before (Err why) = Err why
judged_by kept before (Ok row) =
    if has_other row.visit before.visits || has_other row.visit kept.visits then Err other_visit else Ok row

abbrev pub row_judged : Site → Tables → List ImportedTest → List (List ℕ) → Result ImportedTest ℕ
row_judged site kept before fields = judged_by kept (tables_of_rows before) (row_spelled site (four fields))

-- goes on behind a row, or tells its number and why it is refused
abbrev pub and_then : ℕ → Result ImportedTest ℕ → (ImportedTest → Result (List ImportedTest) (ℕ × ℕ))
    → Result (List ImportedTest) (ℕ × ℕ)
and_then number (Err why) more = Err (number, why)
and_then number (Ok row) more = more row

-- the rows before and these, counted on from a number, or the first of these that is refused
abbrev pub rows_judged : Site → Tables → List ImportedTest → ℕ → List (List (List ℕ))
    → Result (List ImportedTest) (ℕ × ℕ)
rows_judged site kept before number [] = Ok before
rows_judged site kept before number (fields ∷ rest) =
    and_then number (row_judged site kept before fields)
    (λ row. rows_judged site kept (before ++ row ∷ []) (number + 1) rest)

-- the rows of a file, or the first that is refused, the header being row 0
abbrev pub file_judged : Site → Tables → List (List (List ℕ)) → Result (List ImportedTest) (ℕ × ℕ)
file_judged site kept [] = Err (0, bad_form)
file_judged site kept (header ∷ rows) =
    if is_header (four header) then rows_judged site kept [] 1 rows else Err (0, bad_form)

-- A file that is imported again is judged as before and changes nothing.
use Rattle.std.proofs.Common.{◌≡◌, ◌&&◌, ◌||◌, ◌⊎◌, ◌==◌, ◌+◌, inl, inr, ℕ, Bool, true, false, not, List, [], ◌∷◌, ◌++◌, Option, Some, None, refl, sym, ap, ◌∙◌, subst, append_assoc}
use Rattle.std.specs.Prelude.{MatchBool, MatchOption, Result, Ok, Err, if◌then◌else◌}
use Rattle.std.specs.Option.{option_or}
use Rattle.std.specs.Str.{bytes_eq}
use Rattle.std.proofs.lemmas.Bool.{and_from, and_parts, eqb-true, or_parts}
use Rattle.std.proofs.lemmas.Cmp.{nat_eq_equiv, nat_list_eq_equiv}
use Rattle.std.proofs.lemmas.Grind.{fold-append}
use Rattle.std.proofs.lemmas.List.{append-nil}
use Rattle.std.proofs.lemmas.Slice.Eq.{bytes_eq-Decides}
use Rattle.service_keepers.specs.Keeping.{AddsTest, AddsVisit}
use Rattle.service_keepers.specs.MemoryRows.{with_visit}
use Rattle.service_keepers.specs.Tables.{Tables, TestRow, VisitRow, has_test, no_tables, visit_numbered}
use Rattle.service_keepers.proofs.TestsKept.{test_kept}
use Rattle.site_types.specs.declared.site.Site.{Site}
use Rattle.register_import.specs.Judged.{and_then, differs, file_judged, has_other, is_same_visit, judged_by, row_judged, rows_judged, tables_of_rows, with_row}
use Rattle.register_import.specs.Puts.{PutsRow, PutsRows}
use Rattle.register_import.specs.Rows.{ImportedTest, bad_form, four, is_header, other_visit, row_spelled, test_of_row}
use Rattle.register_import.proofs.Found.{of_number, or_assoc, or_none, puts_with, same_tests, same_visits, still_kept, visit_found}

-- ---- what a row finds

found_in : ℕ → Tables → Option VisitRow
found_in number tables = visit_numbered number tables.visits

-- behind what was found stands the visit of a row that was put
row_found : (row : ImportedTest) (old new : Tables) → PutsRow row old new → (number : ℕ)
    → visit_numbered number new.visits ≡ option_or (visit_numbered number old.visits) (of_number number row.visit)
row_found row old new puts number =
    ap (visit_numbered number) (same_visits (test_of_row row) puts.between new puts.test) ∙ visit_found row.visit old puts.between puts.visit number

visits_with_test : (test : TestRow) (tables : Tables) (kept : Bool)
    → (if kept then tables else record tables { tests = tables.tests ++ test ∷ [] }).visits ≡ tables.visits
visits_with_test test tables true = refl
visits_with_test test tables false = refl

-- and so in the tables that rows fill
pub filled_found : (row : ImportedTest) (tables : Tables) (number : ℕ)
    → visit_numbered number (with_row tables row).visits ≡ option_or (visit_numbered number tables.visits) (of_number number row.visit)
filled_found row tables number =
    ap (visit_numbered number) (visits_with_test (test_of_row row) (with_visit row.visit tables) (has_test (test_of_row row) (with_visit row.visit tables).tests))
    ∙ visit_found row.visit tables (with_visit row.visit tables) (puts_with row.visit tables) number

-- ---- a visit that doesn't differ from what is found

made_alike : (n d : ℕ) (e : List ℕ) (m f : ℕ) (g : List ℕ) → n ≡ m → d ≡ f → e ≡ g
    → ◌≡◌ {A = VisitRow} (record { number = n; day = d; engineer = e }) (record { number = m; day = f; engineer = g })
made_alike n d e m f g p q r = rw (p, q, r) refl

same_visit_is : (visit other : VisitRow) → is_same_visit visit other ≡ true → visit ≡ other
same_visit_is visit other same =
    let first = and_parts (visit.number == other.number) ((visit.day == other.day) && bytes_eq visit.engineer other.engineer) same in
    let second = and_parts (visit.day == other.day) (bytes_eq visit.engineer other.engineer) first.1 in
    made_alike visit.number visit.day visit.engineer other.number other.day other.engineer (eqb-true visit.number other.number first.0)
    (eqb-true visit.day other.day second.0) ((bytes_eq-Decides visit.engineer other.engineer).0 second.1)

pub same_visit_itself : (visit : VisitRow) → is_same_visit visit visit ≡ true
same_visit_itself visit =
    and_from (visit.number == visit.number) ((visit.day == visit.day) && bytes_eq visit.engineer visit.engineer) (nat_eq_equiv.refl visit.number)
    (and_from (visit.day == visit.day) (bytes_eq visit.engineer visit.engineer) (nat_eq_equiv.refl visit.day) (nat_list_eq_equiv.refl visit.engineer))

not_false : (b : Bool) → not b ≡ false → b ≡ true
not_false true is = refl
not_false false is = absurd (cc)

pub fits : (visit : VisitRow) (found : Option VisitRow) → differs visit found ≡ false → (found ≡ None) ⊎ (found ≡ Some visit)
fits visit None same = inl refl
fits visit (Some other) same = inr (ap Some (same_visit_is other visit (not_false (is_same_visit other visit) same)))

-- where both fit the visit, it is found behind them
one_of : (visit : VisitRow) (a b : Option VisitRow) → (a ≡ None) ⊎ (a ≡ Some visit) → (b ≡ None) ⊎ (b ≡ Some visit)
    → option_or (option_or a b) (Some visit) ≡ Some visit
one_of visit a b (inl p) (inl q) = rw (p, q) refl
one_of visit a b (inl p) (inr q) = rw (p, q) refl
one_of visit a b (inr p) q = rw p refl

-- ---- rows that were put are kept

-- the visit of a row and its test are kept
pub record IsHeld (row : ImportedTest) (tables : Tables) : Type 0 where
  pub visit : visit_numbered row.visit.number tables.visits ≡ Some row.visit
  pub test : has_test (test_of_row row) tables.tests ≡ true

abbrev pub AreHeld : List ImportedTest → Tables → Type 0
AreHeld [] tables = Unit {0}
AreHeld (row ∷ rows) tables = IsHeld row tables × AreHeld rows tables

pub still_held : (held row : ImportedTest) (old new : Tables) → PutsRow row old new → IsHeld held old → IsHeld held new
still_held held row old new puts is = record {
  visit = row_found row old new puts held.visit.number
      ∙ ap (λ o. option_or o (of_number held.visit.number row.visit)) is.visit;
  test = still_kept (test_of_row held) (test_of_row row) puts.between new puts.test
      (ap (has_test (test_of_row held)) (same_tests row.visit old puts.between puts.visit) ∙ is.test);
}

pub held_behind : (rows : List ImportedTest) (held : ImportedTest) (old new : Tables) → PutsRows rows old new → IsHeld held old → IsHeld held new
held_behind [] held old new puts is = subst (IsHeld held) (sym puts) is
held_behind (row ∷ rows) held old new puts is = held_behind rows held puts.0 new puts.2 (still_held held row old puts.0 puts.1 is)

-- what is found while rows are put is what was kept, or what the rows before fill
abbrev pub IsFoundBy : Tables → Tables → Tables → Type 0
IsFoundBy kept filled now = (number : ℕ)
    → visit_numbered number now.visits ≡ option_or (visit_numbered number kept.visits) (visit_numbered number filled.visits)

pub found_more : (kept filled old new : Tables) (row : ImportedTest) → IsFoundBy kept filled old → PutsRow row old new
    → IsFoundBy kept (with_row filled row) new
found_more kept filled old new row found puts number =
    row_found row old new puts number ∙ ap (λ o. option_or o (of_number number row.visit)) (found number)
    ∙ or_assoc (visit_numbered number kept.visits) (visit_numbered number filled.visits) (of_number number row.visit)
    ∙ ap (option_or (visit_numbered number kept.visits)) (sym (filled_found row filled number))

pub of_itself : (visit : VisitRow) → of_number visit.number visit ≡ Some visit
of_itself visit = ap (λ (b : Bool). if b then Some visit else None) (nat_eq_equiv.refl visit.number)

row_held : (kept filled old new : Tables) (row : ImportedTest) → IsFoundBy kept filled old → PutsRow row old new
    → has_other row.visit filled.visits ≡ false → has_other row.visit kept.visits ≡ false → IsHeld row new
row_held kept filled old new row found puts before stored =
    let n = row.visit.number in
    record {
      visit = row_found row old new puts n ∙ ap (λ o. option_or o (of_number n row.visit)) (found n)
          ∙ ap (option_or (option_or (visit_numbered n kept.visits) (visit_numbered n filled.visits))) (of_itself row.visit)
          ∙ one_of row.visit (visit_numbered n kept.visits) (visit_numbered n filled.visits) (fits row.visit (visit_numbered n kept.visits) stored)
          (fits row.visit (visit_numbered n filled.visits) before);
      test = test_kept (test_of_row row) puts.between new puts.test;
    }

-- ---- the rows of records, judged one by one

-- these are the rows of some records behind others, none of them refused
abbrev pub Judges : Site → Tables → List ImportedTest → List (List (List ℕ)) → List ImportedTest → Type 0
Judges site kept before [] rows = rows ≡ []
Judges site kept before (fields ∷ rest) rows =
    (row : ImportedTest) × (more : List ImportedTest) × (rows ≡ row ∷ more) × (row_judged site kept before fields ≡ Ok row)
    × Judges site kept (before ++ row ∷ []) rest more

-- what is known of a row that isn't refused
pub record IsAccepted (kept filled : Tables) (spelled : Result ImportedTest ℕ) (row : ImportedTest) : Type 0 where
  pub spells : spelled ≡ Ok row
  pub before : has_other row.visit filled.visits ≡ false
  pub stored : has_other row.visit kept.visits ≡ false

accepted_if : (row other : ImportedTest) (refused : Bool) → ◌≡◌ {A = Result ImportedTest ℕ} (if refused then Err other_visit else Ok other) (Ok row)
    → (refused ≡ false) × (other ≡ row)
accepted_if row other true is = absurd (cc)
accepted_if row other false is = (refl, cc)

pub accepted_by : (kept filled : Tables) (spelled : Result ImportedTest ℕ) (row : ImportedTest) → judged_by kept filled spelled ≡ Ok row
    → IsAccepted kept filled spelled row
accepted_by kept filled (Err why) row is = absurd (cc)
accepted_by kept filled (Ok other) row is =
    let parts = accepted_if row other (has_other other.visit filled.visits || has_other other.visit kept.visits) is in
    let both = or_parts (has_other other.visit filled.visits) (has_other other.visit kept.visits) parts.0 in
    record {
      spells = ap (λ (r : ImportedTest). Ok r) parts.1;
      before = subst (λ (r : ImportedTest). has_other r.visit filled.visits ≡ false) parts.1 both.0;
      stored = subst (λ (r : ImportedTest). has_other r.visit kept.visits ≡ false) parts.1 both.1;
    }

judges_next : (site : Site) (kept : Tables) (before : List ImportedTest) (number : ℕ) (fields : List (List ℕ)) (rest : List (List (List ℕ)))
    (rows : List ImportedTest) (judged : Result ImportedTest ℕ) → row_judged site kept before fields ≡ judged
    → and_then number judged (λ row. rows_judged site kept (before ++ row ∷ []) (number + 1) rest) ≡ Ok rows
    → ((row : ImportedTest) → rows_judged site kept (before ++ row ∷ []) (number + 1) rest ≡ Ok rows
    → (more : List ImportedTest) × (rows ≡ (before ++ row ∷ []) ++ more) × Judges site kept (before ++ row ∷ []) rest more)
    → (tail : List ImportedTest) × (rows ≡ before ++ tail) × Judges site kept before (fields ∷ rest) tail
judges_next site kept before number fields rest rows (Err why) at is later = absurd (cc)
judges_next site kept before number fields rest rows (Ok row) at is later =
    let more = later row is in
    (row ∷ more.0, more.1 ∙ append_assoc before (row ∷ []) more.0, (row, more.0, refl, at, more.2))

pub judges_of : (site : Site) (kept : Tables) (before : List ImportedTest) (number : ℕ) (records : List (List (List ℕ))) (rows : List ImportedTest)
    → rows_judged site kept before number records ≡ Ok rows
    → (tail : List ImportedTest) × (rows ≡ before ++ tail) × Judges site kept before records tail
judges_of site kept before number [] rows is = ([], same_ok before rows is ∙ sym (append-nil before), refl)
  where
    same_ok : (a b : List ImportedTest) → ◌≡◌ {A = Result (List ImportedTest) (ℕ × ℕ)} (Ok a) (Ok b) → b ≡ a
    same_ok a b e = cc
judges_of site kept before number (fields ∷ rest) rows is =
    judges_next site kept before number fields rest rows (row_judged site kept before fields) refl is
    (λ row later. judges_of site kept (before ++ row ∷ []) (number + 1) rest rows later)

pub judged_of : (site : Site) (kept : Tables) (before : List ImportedTest) (number : ℕ) (records : List (List (List ℕ))) (tail : List ImportedTest)
    → Judges site kept before records tail → rows_judged site kept before number records ≡ Ok (before ++ tail)
judged_of site kept before number [] tail is =
    ap (λ (rows : List ImportedTest). Ok rows) (sym (append-nil before) ∙ ap (λ xs. before ++ xs) (sym is))
judged_of site kept before number (fields ∷ rest) tail is =
    let row = is.0 in
    ap (λ r. and_then number r (λ row. rows_judged site kept (before ++ row ∷ []) (number + 1) rest)) is.3
    ∙ judged_of site kept (before ++ row ∷ []) (number + 1) rest is.1 is.4
    ∙ ap (λ (rows : List ImportedTest). Ok rows) (append_assoc before (row ∷ []) is.1 ∙ ap (λ xs. before ++ xs) (sym is.2))

-- ---- a file again

-- the rows of a file in which none is refused are held once they are put
pub rows_held : (site : Site) (kept : Tables) (before : List ImportedTest) (records : List (List (List ℕ))) (rows : List ImportedTest) (old new : Tables)
    → Judges site kept before records rows → IsFoundBy kept (tables_of_rows before) old → PutsRows rows old new → AreHeld rows new
rows_held site kept before [] rows old new is found puts = subst (λ (xs : List ImportedTest). AreHeld xs new) (sym is) tt
rows_held site kept before (fields ∷ rest) rows old new is found puts =
    let row = is.0 in
    let more = is.1 in
    let filled = tables_of_rows before in
    let parts = subst (λ (xs : List ImportedTest). PutsRows xs old new) is.2 puts in
    let accepted = accepted_by kept filled (row_spelled site (four fields)) row is.3 in
    let here = row_held kept filled old parts.0 row found parts.1 accepted.before accepted.stored in
    let next = subst (λ (t : Tables). IsFoundBy kept t parts.0) (sym (fold-append with_row no_tables before (row ∷ [])))
    (found_more kept filled old parts.0 row found parts.1) in
    let behind = rows_held site kept (before ++ row ∷ []) rest more parts.0 new is.4 next parts.2 in
    subst (λ (xs : List ImportedTest). AreHeld xs new) (sym is.2) (held_behind more row parts.0 new parts.2 here, behind)

pub accepted_again : (kept stored filled : Tables) (spelled : Result ImportedTest ℕ) (row : ImportedTest) → IsAccepted kept filled spelled row
    → IsHeld row stored → judged_by stored filled spelled ≡ Ok row
accepted_again kept stored filled spelled row accepted held =
    let same : has_other row.visit stored.visits ≡ false = ap (differs row.visit) held.visit ∙ ap not (same_visit_itself row.visit) in
    ap (judged_by stored filled) accepted.spells
    ∙ ap (λ (b : Bool). if b || has_other row.visit stored.visits then Err other_visit else Ok row) accepted.before
    ∙ ap (λ (b : Bool). if b then Err other_visit else Ok row) same

-- where they are held they are judged as before
pub judges_again : (site : Site) (kept stored : Tables) (before : List ImportedTest) (records : List (List (List ℕ))) (rows : List ImportedTest)
    → Judges site kept before records rows → AreHeld rows stored → Judges site stored before records rows
judges_again site kept stored before [] rows is held = is
judges_again site kept stored before (fields ∷ rest) rows is held =
    let row = is.0 in
    let filled = tables_of_rows before in
    let parts = subst (λ (xs : List ImportedTest). AreHeld xs stored) is.2 held in
    let accepted = accepted_by kept filled (row_spelled site (four fields)) row is.3 in (
      row,
      is.1,
      is.2,
      accepted_again kept stored filled (row_spelled site (four fields)) row accepted parts.0,
      judges_again site kept stored (before ++ row ∷ []) rest is.1 is.4 parts.1,
    )

same_visit_by : (visit : VisitRow) (old new : Tables) (kept : Option VisitRow) → kept ≡ Some visit
    → MatchOption kept (AddsVisit visit old new) (λ same. new ≡ old) → new ≡ old
same_visit_by visit old new None is adds = absurd (cc)
same_visit_by visit old new (Some kept) is same = same

same_test_by : (test : TestRow) (old new : Tables) (kept : Bool) → kept ≡ true → MatchBool kept (new ≡ old) (AddsTest test old new) → new ≡ old
same_test_by test old new true is same = same
same_test_by test old new false is adds = absurd (cc)

-- a row that is held changes nothing
held_changes_nothing : (row : ImportedTest) (old new : Tables) → IsHeld row old → PutsRow row old new → new ≡ old
held_changes_nothing row old new held puts =
    let same = same_visit_by row.visit old puts.between (visit_numbered row.visit.number old.visits) held.visit puts.visit in
    same_test_by (test_of_row row) puts.between new (has_test (test_of_row row) puts.between.tests)
    (ap (λ (t : Tables). has_test (test_of_row row) t.tests) same ∙ held.test) puts.test ∙ same

pub unchanged : (rows : List ImportedTest) (old new : Tables) → AreHeld rows old → PutsRows rows old new → new ≡ old
unchanged [] old new held puts = puts
unchanged (row ∷ rows) old new held puts =
    let same = held_changes_nothing row old puts.0 held.0 puts.1 in
    unchanged rows old new held.1 (subst (λ (t : Tables). PutsRows rows t new) same puts.2)

-- a file below its header
pub nothing_filled : (kept : Tables) → IsFoundBy kept no_tables kept
nothing_filled kept number = sym (or_none (visit_numbered number kept.visits))

below_held : (site : Site) (a b : Tables) (rest : List (List (List ℕ))) (rows : List ImportedTest) (headed : Bool)
    → (if headed then rows_judged site a [] 1 rest else Err (0, bad_form)) ≡ Ok rows → PutsRows rows a b → AreHeld rows b
below_held site a b rest rows true is puts =
    let judges = judges_of site a [] 1 rest rows is in
    subst (λ (xs : List ImportedTest). AreHeld xs b) (sym judges.1)
    (rows_held site a [] rest judges.0 a b judges.2 (nothing_filled a) (subst (λ (xs : List ImportedTest). PutsRows xs a b) judges.1 puts))
below_held site a b rest rows false is puts = absurd (cc)

below_again : (site : Site) (a b : Tables) (rest : List (List (List ℕ))) (rows : List ImportedTest) (headed : Bool)
    → (if headed then rows_judged site a [] 1 rest else Err (0, bad_form)) ≡ Ok rows → PutsRows rows a b
    → (if headed then rows_judged site b [] 1 rest else Err (0, bad_form)) ≡ (if headed then rows_judged site a [] 1 rest else Err (0, bad_form))
below_again site a b rest rows true is puts =
    let judges = judges_of site a [] 1 rest rows is in
    let held = subst (λ (xs : List ImportedTest). AreHeld xs b) judges.1 (below_held site a b rest rows true is puts) in
    judged_of site b [] 1 rest judges.0 (judges_again site a b [] rest judges.0 judges.2 held)
    ∙ ap (λ (xs : List ImportedTest). Ok xs) (sym judges.1) ∙ sym is
below_again site a b rest rows false is puts = refl

-- the rows of a file that was imported are held
pub file_held : (site : Site) (records : List (List (List ℕ))) (rows : List ImportedTest) (a b : Tables) → file_judged site a records ≡ Ok rows
    → PutsRows rows a b → AreHeld rows b
file_held site [] rows a b is puts = absurd (cc)
file_held site (header ∷ rest) rows a b is puts = below_held site a b rest rows (is_header (four header)) is puts

-- and it is judged again as before
pub file_again : (site : Site) (records : List (List (List ℕ))) (rows : List ImportedTest) (a b : Tables) → file_judged site a records ≡ Ok rows
    → PutsRows rows a b → file_judged site b records ≡ file_judged site a records
file_again site [] rows a b is puts = refl
file_again site (header ∷ rest) rows a b is puts = below_again site a b rest rows (is_header (four header)) is puts

pub same_rows : (a b : List ImportedTest) → ◌≡◌ {A = Result (List ImportedTest) (ℕ × ℕ)} (Ok a) (Ok b) → a ≡ b
same_rows a b e = cc

-- its rows are those of the first time
pub rows_again : (site : Site) (records : List (List (List ℕ))) (rows again : List ImportedTest) (a b : Tables) → file_judged site a records ≡ Ok rows
    → PutsRows rows a b → file_judged site b records ≡ Ok again → rows ≡ again
rows_again site records rows again a b is puts later =
    same_rows rows again (sym is ∙ sym (file_again site records rows a b is puts) ∙ later)

-- and change nothing
pub again_changes_nothing : (site : Site) (records : List (List (List ℕ))) (rows again : List ImportedTest) (a b c : Tables)
    → file_judged site a records ≡ Ok rows → PutsRows rows a b → file_judged site b records ≡ Ok again → PutsRows again b c → c ≡ b
again_changes_nothing site records rows again a b c is puts later more =
    let same = rows_again site records rows again a b is puts later in
    unchanged again b c (subst (λ (xs : List ImportedTest). AreHeld xs b) same (file_held site records rows a b is puts)) more

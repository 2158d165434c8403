-- A file of which some first rows were put is judged as before, and completed.
use Rattle.std.proofs.Common.{◌≡◌, ◌||◌, inl, inr, ℕ, Bool, true, false, not, List, [], ◌∷◌, ◌++◌, Option, Some, None, refl, sym, ap, ◌∙◌, subst, append_assoc}
use Rattle.std.specs.Prelude.{MatchOption, Result, Ok, Err, fold, if◌then◌else◌}
use Rattle.std.specs.Option.{option_or}
use Rattle.std.proofs.lemmas.Grind.{fold-append}
use Rattle.std.proofs.lemmas.List.{append-nil}
use Rattle.service_keepers.specs.Keeping.{AddsVisit, PutsTest, PutsVisit}
use Rattle.service_keepers.specs.Tables.{Tables, VisitRow, has_test, no_tables, visit_numbered}
use Rattle.site_types.specs.declared.site.Site.{Site}
use Rattle.register_import.specs.Judged.{differs, file_judged, has_other, judged_by, rows_judged, tables_of_rows, with_row}
use Rattle.register_import.specs.Puts.{PutsAtMost, PutsFront, PutsRow, PutsRows}
use Rattle.register_import.specs.Rows.{ImportedTest, bad_form, four, is_header, other_visit, row_spelled, test_of_row}
use Rattle.register_import.proofs.Again.{AreHeld, IsAccepted, IsFoundBy, IsHeld, Judges, accepted_by, filled_found, found_more, judged_of, judges_again, judges_of}
use Rattle.register_import.proofs.Again.{nothing_filled, of_itself, rows_held, same_rows, same_visit_itself, unchanged}
use Rattle.register_import.proofs.Found.{of_number, or_assoc, same_tests, visit_found}

-- ---- what rows fill

-- behind what was filled stands what more rows fill
filled_more : (front mid : List ImportedTest) (number : ℕ) → (more : Option VisitRow)
    × (visit_numbered number (tables_of_rows (front ++ mid)).visits ≡ option_or (visit_numbered number (tables_of_rows front).visits) more)
filled_more front [] number = (
  None,
  ap (λ (rows : List ImportedTest). visit_numbered number (tables_of_rows rows).visits) (append-nil front)
      ∙ nothing_more (visit_numbered number (tables_of_rows front).visits),
)
  where
    nothing_more : (o : Option VisitRow) → o ≡ option_or o None
    nothing_more None = refl
    nothing_more (Some x) = refl
filled_more front (row ∷ mid) number =
    let behind = filled_more (front ++ row ∷ []) mid number in
    let one = of_number number row.visit in (
      option_or one behind.0,
      ap (λ (rows : List ImportedTest). visit_numbered number (tables_of_rows rows).visits) (sym (append_assoc front (row ∷ []) mid))
          ∙ behind.1
          ∙ ap (λ (t : Tables). option_or (visit_numbered number t.visits) behind.0) (fold-append with_row no_tables front (row ∷ []))
          ∙ ap (λ o. option_or o behind.0) (filled_found row (tables_of_rows front) number)
          ∙ or_assoc (visit_numbered number (tables_of_rows front).visits) one behind.0,
    )

-- rows that are put are found as they fill
found_rows : (rows : List ImportedTest) (kept filled old new : Tables) → IsFoundBy kept filled old → PutsRows rows old new
    → IsFoundBy kept (fold with_row filled rows) new
found_rows [] kept filled old new found puts = subst (IsFoundBy kept filled) (sym puts) found
found_rows (row ∷ rows) kept filled old new found puts =
    found_rows rows kept (with_row filled row) puts.0 new (found_more kept filled old puts.0 row found puts.1) puts.2

-- ---- rows behind those that were put

differs_neither : (visit : VisitRow) (a f m : Option VisitRow) → differs visit a ≡ false → differs visit (option_or f m) ≡ false
    → differs visit (option_or a f) ≡ false
differs_neither visit (Some w) f m first second = first
differs_neither visit None None m first second = refl
differs_neither visit None (Some w) m first second = second

-- a row that was accepted doesn't differ from what is found once the rows before it were put in part
fits_still : (kept stored : Tables) (front mid : List ImportedTest) (row : ImportedTest) → IsFoundBy kept (tables_of_rows front) stored
    → has_other row.visit (tables_of_rows (front ++ mid)).visits ≡ false → has_other row.visit kept.visits ≡ false
    → has_other row.visit stored.visits ≡ false
fits_still kept stored front mid row found before is =
    let number = row.visit.number in
    let more = filled_more front mid number in
    ap (differs row.visit) (found number)
    ∙ differs_neither row.visit (visit_numbered number kept.visits) (visit_numbered number (tables_of_rows front).visits) more.0 is
    (ap (differs row.visit) (sym more.1) ∙ before)

judged_with : (kept stored filled : Tables) (spelled : Result ImportedTest ℕ) (row : ImportedTest) → IsAccepted kept filled spelled row
    → has_other row.visit stored.visits ≡ false → judged_by stored filled spelled ≡ Ok row
judged_with kept stored filled spelled row accepted same =
    ap (judged_by stored filled) accepted.spells
    ∙ ap (λ (b : Bool). if b || has_other row.visit stored.visits then Err other_visit else Ok row) accepted.before
    ∙ ap (λ (b : Bool). if b then Err other_visit else Ok row) same

judges_behind : (site : Site) (kept stored : Tables) (front mid : List ImportedTest) (records : List (List (List ℕ))) (rows : List ImportedTest)
    → IsFoundBy kept (tables_of_rows front) stored → Judges site kept (front ++ mid) records rows → Judges site stored (front ++ mid) records rows
judges_behind site kept stored front mid [] rows found is = is
judges_behind site kept stored front mid (fields ∷ rest) rows found is =
    let row = is.0 in
    let filled = tables_of_rows (front ++ mid) in
    let spelled = row_spelled site (four fields) in
    let accepted = accepted_by kept filled spelled row is.3 in
    let same = append_assoc front mid (row ∷ []) in (
      row,
      is.1,
      is.2,
      judged_with kept stored filled spelled row accepted (fits_still kept stored front mid row found accepted.before accepted.stored),
      subst (λ (before : List ImportedTest). Judges site stored before rest is.1) (sym same)
          (judges_behind site kept stored front (mid ++ row ∷ []) rest is.1 found
          (subst (λ (before : List ImportedTest). Judges site kept before rest is.1) same is.4)),
    )

-- ---- a file cut behind some rows

-- the records of some first rows, and those behind
pub record IsCut (site : Site) (kept : Tables) (before front : List ImportedTest) (records : List (List (List ℕ))) (back : List ImportedTest) : Type 0 where
  pub first : List (List (List ℕ))
  pub rest : List (List (List ℕ))
  pub are : records ≡ first ++ rest
  pub here : Judges site kept before first front
  pub behind : Judges site kept (before ++ front) rest back

tail_is : (a b : ImportedTest) (xs ys : List ImportedTest) → a ∷ xs ≡ b ∷ ys → xs ≡ ys
tail_is a b xs ys e = cc

head_is : (a b : ImportedTest) (xs ys : List ImportedTest) → a ∷ xs ≡ b ∷ ys → a ≡ b
head_is a b xs ys e = cc

cut_behind : (site : Site) (kept : Tables) (before front : List ImportedTest) (records : List (List (List ℕ))) (back : List ImportedTest)
    → Judges site kept before records (front ++ back) → IsCut site kept before front records back
cut_behind site kept before [] records back is =
    record { first = []; rest = records; are = refl; here = refl; behind = subst (λ (b : List ImportedTest). Judges site kept b records back) (sym (append-nil before)) is }
cut_behind site kept before (row ∷ front) [] back is = absurd (cc)
cut_behind site kept before (row ∷ front) (fields ∷ records) back is =
    let same = head_is row is.0 (front ++ back) is.1 is.2 in
    let more = tail_is row is.0 (front ++ back) is.1 is.2 in
    let next = subst (λ (r : ImportedTest). Judges site kept (before ++ r ∷ []) records is.1) (sym same) is.4 in
    let cut = cut_behind site kept (before ++ row ∷ []) front records back
    (subst (λ (xs : List ImportedTest). Judges site kept (before ++ row ∷ []) records xs) (sym more) next) in
    record {
      first = fields ∷ cut.first;
      rest = cut.rest;
      are = ap (λ xs. fields ∷ xs) cut.are;
      here = (row, front, refl, subst (λ (r : ImportedTest). judged_by kept (tables_of_rows before) (row_spelled site (four fields)) ≡ Ok r) (sym same) is.3, cut.here);
      behind = subst (λ (b : List ImportedTest). Judges site kept b cut.rest back) (append_assoc before (row ∷ []) front) cut.behind;
    }

-- and put together again
joined : (site : Site) (kept : Tables) (before front : List ImportedTest) (first rest : List (List (List ℕ))) (back : List ImportedTest)
    → Judges site kept before first front → Judges site kept (before ++ front) rest back → Judges site kept before (first ++ rest) (front ++ back)
joined site kept before front [] rest back is behind =
    let none : before ++ front ≡ before = ap (λ xs. before ++ xs) is ∙ append-nil before in
    subst (λ (xs : List ImportedTest). Judges site kept before rest (xs ++ back)) (sym is) (subst (λ (b : List ImportedTest). Judges site kept b rest back) none behind)
joined site kept before front (fields ∷ first) rest back is behind =
    let row = is.0 in
    let more = is.1 in (
      row,
      more ++ back,
      ap (λ xs. xs ++ back) is.2,
      is.3,
      joined site kept (before ++ row ∷ []) more first rest back is.4
          (subst (λ (b : List ImportedTest). Judges site kept b rest back)
          (ap (λ xs. before ++ xs) is.2 ∙ sym (append_assoc before (row ∷ []) more)) behind),
    )

-- ---- the rows of a file of which some first ones were put

front_found : (kept between : Tables) (front : List ImportedTest) → PutsRows front kept between → IsFoundBy kept (tables_of_rows front) between
front_found kept between front puts = found_rows front kept no_tables kept between (nothing_filled kept) puts

-- a visit that is put behind them leaves them held
visit_put_holds : (held : ImportedTest) (visit : VisitRow) (old new : Tables) → PutsVisit visit old new → IsHeld held old → IsHeld held new
visit_put_holds held visit old new puts is = record {
  visit = visit_found visit old new puts held.visit.number ∙ ap (λ o. option_or o (of_number held.visit.number visit)) is.visit;
  test = ap (has_test (test_of_row held)) (same_tests visit old new puts) ∙ is.test;
}

all_hold : (rows : List ImportedTest) (visit : VisitRow) (old new : Tables) → PutsVisit visit old new → AreHeld rows old → AreHeld rows new
all_hold [] visit old new puts held = tt
all_hold (row ∷ rows) visit old new puts held = (visit_put_holds row visit old new puts held.0, all_hold rows visit old new puts held.1)

still_all_held : (rows : List ImportedTest) (visit : VisitRow) (old new : Tables) → PutsAtMost visit old new → AreHeld rows old → AreHeld rows new
still_all_held rows visit old new (inl same) held = subst (AreHeld rows) (sym same) held
still_all_held rows visit old new (inr puts) held = all_hold rows visit old new puts held

judges_from : (site : Site) (kept stored : Tables) (front : List ImportedTest) (records : List (List (List ℕ))) (rows : List ImportedTest)
    → IsFoundBy kept (tables_of_rows front) stored → Judges site kept front records rows → Judges site stored front records rows
judges_from site kept stored front records rows found is =
    subst (λ (before : List ImportedTest). Judges site stored before records rows) (append-nil front)
    (judges_behind site kept stored front [] records rows found
    (subst (λ (before : List ImportedTest). Judges site kept before records rows) (sym (append-nil front)) is))

differs_from_none : (visit : VisitRow) (a f : Option VisitRow) → differs visit a ≡ false → differs visit f ≡ false
    → differs visit (option_or a (option_or f (Some visit))) ≡ false
differs_from_none visit (Some w) f first second = first
differs_from_none visit None (Some w) first second = second
differs_from_none visit None None first second = ap not (same_visit_itself visit)

-- what one row more fills
filled_with : (front : List ImportedTest) (row : ImportedTest) (number : ℕ) → visit_numbered number (tables_of_rows (front ++ row ∷ [])).visits
    ≡ option_or (visit_numbered number (tables_of_rows front).visits) (of_number number row.visit)
filled_with front row number =
    ap (λ (t : Tables). visit_numbered number t.visits) (fold-append with_row no_tables front (row ∷ []))
    ∙ filled_found row (tables_of_rows front) number

-- the next row and those behind, where the visit of the next one was put
next_behind : (site : Site) (kept stored : Tables) (front : List ImportedTest) (next : ImportedTest) (records : List (List (List ℕ)))
    (back : List ImportedTest) → IsFoundBy kept (tables_of_rows (front ++ next ∷ [])) stored → Judges site kept front records (next ∷ back)
    → Judges site stored front records (next ∷ back)
next_behind site kept stored front next [] back found is = absurd (cc)
next_behind site kept stored front next (fields ∷ rest) back found is =
    let row = is.0 in
    let same = head_is next row back is.1 is.2 in
    let found_row = subst (λ (r : ImportedTest). IsFoundBy kept (tables_of_rows (front ++ r ∷ [])) stored) same found in
    let spelled = row_spelled site (four fields) in
    let filled = tables_of_rows front in
    let number = row.visit.number in
    let accepted = accepted_by kept filled spelled row is.3 in
    let stays : has_other row.visit stored.visits ≡ false =
    ap (differs row.visit) (found_row number ∙ ap (option_or (visit_numbered number kept.visits))
    (filled_with front row number ∙ ap (option_or (visit_numbered number filled.visits)) (of_itself row.visit)))
    ∙ differs_from_none row.visit (visit_numbered number kept.visits) (visit_numbered number filled.visits) accepted.stored accepted.before in (
      row,
      is.1,
      is.2,
      judged_with kept stored filled spelled row accepted stays,
      judges_from site kept stored (front ++ row ∷ []) rest is.1 found_row is.4,
    )

-- what is found where the visit of the next row was put behind some first rows
found_with_next : (kept between stored : Tables) (front : List ImportedTest) (next : ImportedTest) → PutsRows front kept between
    → PutsVisit next.visit between stored → IsFoundBy kept (tables_of_rows (front ++ next ∷ [])) stored
found_with_next kept between stored front next puts last number =
    visit_found next.visit between stored last number
    ∙ ap (λ o. option_or o (of_number number next.visit)) (front_found kept between front puts number)
    ∙ or_assoc (visit_numbered number kept.visits) (visit_numbered number (tables_of_rows front).visits) (of_number number next.visit)
    ∙ ap (option_or (visit_numbered number kept.visits)) (sym (filled_with front next number))

behind_again : (site : Site) (kept between stored : Tables) (front : List ImportedTest) (next : ImportedTest) (records : List (List (List ℕ)))
    (back : List ImportedTest) → PutsRows front kept between → PutsAtMost next.visit between stored → Judges site kept front records (next ∷ back)
    → Judges site stored front records (next ∷ back)
behind_again site kept between stored front next records back puts (inl same) is =
    judges_from site kept stored front records (next ∷ back)
    (subst (IsFoundBy kept (tables_of_rows front)) (sym same) (front_found kept between front puts)) is
behind_again site kept between stored front next records back puts (inr last) is =
    next_behind site kept stored front next records back (found_with_next kept between stored front next puts last) is

module _ (site : Site) (kept stored : Tables) (records : List (List (List ℕ))) (rows : List ImportedTest) (part : PutsFront rows kept stored)
    (is : Judges site kept [] records rows) where
  cut : IsCut site kept [] part.front records (part.next ∷ part.back)
  cut = cut_behind site kept [] part.front records (part.next ∷ part.back)
      (subst (λ (xs : List ImportedTest). Judges site kept [] records xs) part.are is)

  -- the first rows are held
  pub front_held : AreHeld part.front stored
  front_held =
      still_all_held part.front part.next.visit part.between stored part.last
      (rows_held site kept [] cut.first part.front kept part.between cut.here (nothing_filled kept) part.puts)

  pub part_judged : Judges site stored [] records rows
  part_judged =
      let here = judges_again site kept stored [] cut.first part.front cut.here front_held in
      let behind = behind_again site kept part.between stored part.front part.next cut.rest part.back part.puts part.last cut.behind in
      let both = joined site stored [] part.front cut.first cut.rest (part.next ∷ part.back) here behind in
      subst (λ (xs : List ImportedTest). Judges site stored [] records xs) (sym part.are)
      (subst (λ (them : List (List (List ℕ))). Judges site stored [] them (part.front ++ part.next ∷ part.back)) (sym cut.are) both)

-- ---- a whole file

below_completed : (site : Site) (a b : Tables) (rest : List (List (List ℕ))) (rows : List ImportedTest) (headed : Bool)
    → (if headed then rows_judged site a [] 1 rest else Err (0, bad_form)) ≡ Ok rows → PutsFront rows a b
    → (if headed then rows_judged site b [] 1 rest else Err (0, bad_form)) ≡ (if headed then rows_judged site a [] 1 rest else Err (0, bad_form))
below_completed site a b rest rows true is part =
    let judges = judges_of site a [] 1 rest rows is in
    let all = subst (λ (xs : List ImportedTest). Judges site a [] rest xs) (sym judges.1) judges.2 in
    judged_of site b [] 1 rest rows (part_judged site a b rest rows part all) ∙ sym is
below_completed site a b rest rows false is part = refl

below_front : (site : Site) (a b : Tables) (rest : List (List (List ℕ))) (rows : List ImportedTest) (headed : Bool)
    → (if headed then rows_judged site a [] 1 rest else Err (0, bad_form)) ≡ Ok rows → (part : PutsFront rows a b) → AreHeld part.front b
below_front site a b rest rows true is part =
    let judges = judges_of site a [] 1 rest rows is in
    front_held site a b rest rows part (subst (λ (xs : List ImportedTest). Judges site a [] rest xs) (sym judges.1) judges.2)
below_front site a b rest rows false is part = absurd (cc)

-- a file of which some first rows were put is judged as before
pub part_again : (site : Site) (records : List (List (List ℕ))) (rows : List ImportedTest) (a b : Tables) → file_judged site a records ≡ Ok rows
    → PutsFront rows a b → file_judged site b records ≡ file_judged site a records
part_again site [] rows a b is part = refl
part_again site (header ∷ rest) rows a b is part = below_completed site a b rest rows (is_header (four header)) is part

part_held : (site : Site) (records : List (List (List ℕ))) (rows : List ImportedTest) (a b : Tables) → file_judged site a records ≡ Ok rows
    → (part : PutsFront rows a b) → AreHeld part.front b
part_held site [] rows a b is part = absurd (cc)
part_held site (header ∷ rest) rows a b is part = below_front site a b rest rows (is_header (four header)) is part

-- ---- the puts of both times are those of one

pub record PutsInTwo (front back : List ImportedTest) (old new : Tables) : Type 0 where
  pub between : Tables
  pub first : PutsRows front old between
  pub then_back : PutsRows back between new

split_puts : (front back : List ImportedTest) (old new : Tables) → PutsRows (front ++ back) old new → PutsInTwo front back old new
split_puts [] back old new puts = record { between = old; first = refl; then_back = puts }
split_puts (row ∷ front) back old new puts =
    let more = split_puts front back puts.0 new puts.2 in
    record { between = more.between; first = (puts.0, puts.1, more.first); then_back = more.then_back }

join_puts : (front back : List ImportedTest) (a b c : Tables) → PutsRows front a b → PutsRows back b c → PutsRows (front ++ back) a c
join_puts [] back a b c first behind = subst (λ (t : Tables). PutsRows back t c) first behind
join_puts (row ∷ front) back a b c first behind = (first.0, first.1, join_puts front back first.0 b c first.2 behind)

some_or : (o : Option VisitRow) (x : VisitRow) → (y : VisitRow) × (option_or o (Some x) ≡ Some y)
some_or None x = (x, refl)
some_or (Some y) x = (y, refl)

kept_stays : (visit : VisitRow) (old new : Tables) (kept : Option VisitRow) (y : VisitRow) → kept ≡ Some y
    → MatchOption kept (AddsVisit visit old new) (λ same. new ≡ old) → new ≡ old
kept_stays visit old new None y is adds = absurd (cc)
kept_stays visit old new (Some kept) y is same = same

-- a visit that was put is put again, and nothing changes
put_again : (visit : VisitRow) (old mid new : Tables) → PutsVisit visit old mid → PutsVisit visit mid new → new ≡ mid
put_again visit old mid new first again =
    let some = some_or (visit_numbered visit.number old.visits) visit in
    kept_stays visit mid new (visit_numbered visit.number mid.visits) some.0
    (visit_found visit old mid first visit.number ∙ ap (option_or (visit_numbered visit.number old.visits)) (of_itself visit) ∙ some.1) again

row_completed : (row : ImportedTest) (old mid new : Tables) → PutsAtMost row.visit old mid → PutsRow row mid new → PutsRow row old new
row_completed row old mid new (inl same) puts = subst (λ (t : Tables). PutsRow row t new) same puts
row_completed row old mid new (inr first) puts = record {
  between = mid;
  visit = first;
  test = subst (λ (t : Tables). PutsTest (test_of_row row) t new) (put_again row.visit old mid puts.between first puts.visit) puts.test;
}

puts_completed : (rows : List ImportedTest) (a b c : Tables) (part : PutsFront rows a b) → AreHeld part.front b → PutsRows rows b c → PutsRows rows a c
puts_completed rows a b c part held puts =
    let two = split_puts part.front (part.next ∷ part.back) b c (subst (λ (xs : List ImportedTest). PutsRows xs b c) part.are puts) in
    let same = unchanged part.front b two.between held two.first in
    let behind = subst (λ (t : Tables). PutsRows (part.next ∷ part.back) t c) same two.then_back in
    subst (λ (xs : List ImportedTest). PutsRows xs a c) (sym part.are)
    (join_puts part.front (part.next ∷ part.back) a part.between c part.puts
    (behind.0, row_completed part.next part.between b behind.0 part.last behind.1, behind.2))

-- what is put the second time completes the first
pub part_completed : (site : Site) (records : List (List (List ℕ))) (rows again : List ImportedTest) (a b c : Tables) → file_judged site a records ≡ Ok rows
    → PutsFront rows a b → file_judged site b records ≡ Ok again → PutsRows again b c → (again ≡ rows) × PutsRows rows a c
part_completed site records rows again a b c is part later puts =
    let same = same_rows again rows (sym later ∙ part_again site records rows a b is part ∙ is) in (
      same,
      puts_completed rows a b c part (part_held site records rows a b is part) (subst (λ (xs : List ImportedTest). PutsRows xs b c) same puts),
    )

-- Laws of the two tables: what a row behind the others makes of them, and the days of a point, test by test.
use Rattle.std.proofs.Common.{◌≡◌, ◌&&◌, ◌||◌, ℕ, Bool, true, false, not, List, [], ◌∷◌, ◌++◌, Option, Some, None, map, refl, sym, ap, ◌∙◌}
use Rattle.std.specs.Prelude.{◌==◌, is_none, is_some, option_map, if◌then◌else◌}
use Rattle.std.specs.List.{fold}
use Rattle.std.specs.Str.{bytes_eq}
use Rattle.std.proofs.lemmas.Bool.{and_from, and_parts, or_parts}
use Rattle.std.proofs.lemmas.Cmp.{nat_eq_equiv, nat_list_eq_equiv}
use Rattle.std.proofs.lemmas.List.{map-append}
use Rattle.std.proofs.lemmas.List.Folds.{find-append, list_any-append}
use Rattle.service_keepers.specs.Rows.{test_row, visit_row}
use Rattle.service_keepers.specs.declared.point_test.PointTest.{PointTest}
use Rattle.service_keepers.specs.declared.visit.Visit.{Visit}
use Rattle.service_keepers.specs.Tables.{TestRow, VisitRow, are_distinct_tests, days_of_point, has_test, have_distinct_numbers, is_same_test, later_day, visit_numbered}

-- ---- visits

none_is : {X : Type 0} (o : Option X) → is_none o ≡ true → o ≡ None
none_is None is = refl
none_is (Some x) is = cc

passed_over : {X : Type 0} (b : Bool) (x : X) (o : Option X) → (if b then Some x else o) ≡ None → (b ≡ false) × (o ≡ None)
passed_over true x o none = absurd (cc)
passed_over false x o none = (refl, none)

-- a visit of another number behind the others isn't found
still_none : (number : ℕ) (visits : List VisitRow) (visit : VisitRow) → visit_numbered number visits ≡ None → (visit.number == number) ≡ false
    → visit_numbered number (visits ++ visit ∷ []) ≡ None
still_none number visits visit none apart =
    find-append (λ (v : VisitRow). v.number == number) visits (visit ∷ []) ∙ rw (none, apart) refl

pub distinct_numbers_more : (visits : List VisitRow) (visit : VisitRow) → have_distinct_numbers visits ≡ true
    → visit_numbered visit.number visits ≡ None → have_distinct_numbers (visits ++ visit ∷ []) ≡ true
distinct_numbers_more [] visit distinct none = refl
distinct_numbers_more (first ∷ rest) visit distinct none =
    let parts = and_parts (is_none (visit_numbered first.number rest)) (have_distinct_numbers rest) distinct in
    let passed = passed_over (first.number == visit.number) first (visit_numbered visit.number rest) none in
    let apart : (visit.number == first.number) ≡ false = nat_eq_equiv.symm visit.number first.number ∙ passed.0 in
    let gone = still_none first.number rest visit (none_is (visit_numbered first.number rest) parts.0) apart in
    and_from (is_none (visit_numbered first.number (rest ++ visit ∷ []))) (have_distinct_numbers (rest ++ visit ∷ [])) (ap is_none gone)
    (distinct_numbers_more rest visit parts.1 passed.1)

-- where none is found there is none
pub none_found : {X Y : Type 0} (f : X → Y) (found : Option X) (o : Option Y) → option_map f found ≡ o → is_some found ≡ false → o ≡ None
none_found f None o is gone = sym is
none_found f (Some x) o is gone = absurd (cc)

-- whether or not a visit could be pushed
pub distinct_numbers_pushed : (old new : List Visit) (visit : Visit) (pushed : Bool) → new ≡ (if pushed then old ++ visit ∷ [] else old)
    → have_distinct_numbers (map visit_row old) ≡ true → visit_numbered visit.number (map visit_row old) ≡ None
    → have_distinct_numbers (map visit_row new) ≡ true
distinct_numbers_pushed old new visit true is distinct none =
    rw (is, map-append visit_row old (visit ∷ [])) (distinct_numbers_more (map visit_row old) (visit_row visit) distinct none)
distinct_numbers_pushed old new visit false is distinct none = rw is distinct

-- ---- tests

same_test_symm : (a b : TestRow) → is_same_test a b ≡ is_same_test b a
same_test_symm a b =
    ap (λ t. t && bytes_eq b.point a.point) (nat_eq_equiv.symm b.visit a.visit) ∙ ap (λ t. (a.visit == b.visit) && t)
    (nat_list_eq_equiv.symm b.point a.point)

pub distinct_tests_more : (tests : List TestRow) (test : TestRow) → are_distinct_tests tests ≡ true → has_test test tests ≡ false
    → are_distinct_tests (tests ++ test ∷ []) ≡ true
distinct_tests_more [] test distinct none = refl
distinct_tests_more (first ∷ rest) test distinct none =
    let parts = and_parts (not (has_test first rest)) (are_distinct_tests rest) distinct in
    let passed = or_parts (is_same_test test first) (has_test test rest) none in
    let apart : is_same_test first test ≡ false = same_test_symm first test ∙ passed.0 in
    let gone : has_test first (rest ++ test ∷ []) ≡ has_test first rest =
    list_any-append (is_same_test first) rest (test ∷ []) ∙ rw apart (or_false (has_test first rest)) in
    and_from (not (has_test first (rest ++ test ∷ []))) (are_distinct_tests (rest ++ test ∷ [])) (ap not gone ∙ parts.0)
    (distinct_tests_more rest test parts.1 passed.1)
  where
    or_false : (b : Bool) → (b || false) ≡ b
    or_false true = refl
    or_false false = refl

-- whether or not a test could be pushed
pub distinct_tests_pushed : (old new : List PointTest) (test : PointTest) (pushed : Bool) → new ≡ (if pushed then old ++ test ∷ [] else old)
    → are_distinct_tests (map test_row old) ≡ true → has_test (test_row test) (map test_row old) ≡ false
    → are_distinct_tests (map test_row new) ≡ true
distinct_tests_pushed old new test true is distinct none =
    rw (is, map-append test_row old (test ∷ [])) (distinct_tests_more (map test_row old) (test_row test) distinct none)
distinct_tests_pushed old new test false is distinct none = rw is distinct

-- ---- the last day of a point, test by test

-- the last of a day, where there is one, and those of a point's tests
abbrev pub last_from : List ℕ → List VisitRow → Option ℕ → List TestRow → Option ℕ
last_from point visits last tests = fold later_day last (days_of_point point (record { visits = visits; tests = tests }))

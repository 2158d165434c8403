-- What putting a visit or a test makes of the rows.
use Rattle.std.proofs.Common.{◌≡◌, ◌&&◌, ◌||◌, inl, inr, ℕ, ◌+◌, ◌≤◌, pos, Bool, true, false, not, List, [], ◌∷◌, ◌++◌, length, map, Option, Some, None, refl, sym, ap, subst, ◌∙◌, arith}
use Rattle.std.specs.Prelude.{◌==◌, ◌+ℤ◌, ℤ, is_none, if◌then◌else◌}
use Rattle.std.specs.List.{fold}
use Rattle.std.specs.Ordering.{is_eq}
use Rattle.std.specs.Str.{bytes_eq}
use Rattle.std.specs.declared.cmp.Ordering.{Ordering}
use Rattle.std.specs.declared.cmp.Ordering.TheVariants.{Less, Equal, Greater}
use Rattle.std.specs.Cmp.{unsigned_tied}
use Rattle.std.proofs.lemmas.Bool.{and_from, and_parts, cases_Bool, or_parts}
use Rattle.std.proofs.lemmas.Cmp.{nat_eq_equiv, nat_list_eq_equiv}
use Rattle.std.proofs.lemmas.List.Folds.{list_any-append}
use Rattle.std.proofs.lemmas.Option.{none-some}
use Rattle.sqlite_value.specs.Keys.{plain, first_key}
use Rattle.sqlite_value.specs.Order.{Row, value_cmp}
use Rattle.sqlite_value.specs.declared.keys.Collation.{Collation}
use Rattle.sqlite_value.specs.declared.keys.Collation.TheVariants.{Binary}
use Rattle.sqlite_value.specs.declared.value.Value.TheVariants.{Int, Text}
use Rattle.sqlite_value.proofs.KeyLemmas.{first_key-plain}
use Rattle.sqlite_schema.specs.Rules.{equal}
use Rattle.sqlite_rules.specs.Edit.{id_in}
use Rattle.sqlite_rules.specs.Keys.{conflicts}
use Rattle.sqlite_rules.specs.Lists.{Has}
use Rattle.sqlite_trees.specs.Tree.{put_row, rowid}
use Rattle.service_keepers.specs.Tables.{TestRow, VisitRow, are_distinct_tests, has_test, have_distinct_numbers, is_same_test, visit_numbered}
use Rattle.register_sqlite.specs.Schema.{tests_index, tests_table, visits_table}
use Rattle.register_sqlite.specs.Stored.{stored_test, stored_tests, stored_visit, test_in, visit_in}
use Rattle.register_sqlite.proofs.Compared.{apart, below, equal_numbers, equal_texts, numbers_cmp}

-- ---- rows and what they are

pub unstored_visits : (visits : List VisitRow) → map visit_in (map stored_visit visits) ≡ visits
unstored_visits [] = refl
unstored_visits (visit ∷ rest) = ap (λ xs. visit ∷ xs) (unstored_visits rest)

pub unstored_tests : (place : ℕ) (tests : List TestRow) → map test_in (stored_tests place tests) ≡ tests
unstored_tests place [] = refl
unstored_tests place (test ∷ rest) = ap (λ xs. test ∷ xs) (unstored_tests (place + 1) rest)

-- ---- when two rows have one key

plain_is : (first_key plain).collation ≡ Binary
plain_is = ap (λ k. k.collation) first_key-plain

one_part : (a : Bool) → ((a && true) || false) ≡ a
one_part true = refl
one_part false = refl

three_parts : (a b c : Bool) → ((a && true) || ((b && (c && true)) || false)) ≡ (a || (b && c))
three_parts true b c = refl
three_parts false true true = refl
three_parts false true false = refl
three_parts false false c = refl

pub visit_conflicts : (visit other : VisitRow)
    → conflicts None (tests_index ∷ []) visits_table (stored_visit visit) (stored_visit other) ≡ (other.number == visit.number)
visit_conflicts visit other =
    ap (λ c. (equal c (Int (pos other.number)) (Int (pos visit.number)) && true) || false) plain_is
    ∙ one_part (equal Binary (Int (pos other.number)) (Int (pos visit.number))) ∙ equal_numbers other.number visit.number

pub test_conflicts : (place at : ℕ) (test other : TestRow)
    → conflicts None (tests_index ∷ []) tests_table (stored_test place test) (stored_test at other) ≡ ((at == place) || is_same_test test other)
test_conflicts place at test other =
    let a = equal Binary (Int (pos at)) (Int (pos place)) in
    let b = equal Binary (Int (pos other.visit)) (Int (pos test.visit)) in
    let c = equal Binary (Text other.point) (Text test.point) in
    ap (λ (k : Collation). (equal k (Int (pos at)) (Int (pos place)) && true)
    || ((equal k (Int (pos other.visit)) (Int (pos test.visit)) && (equal k (Text other.point) (Text test.point) && true)) || false)) plain_is
    ∙ three_parts a b c ∙ ap (λ x. x || (b && c)) (equal_numbers at place) ∙ ap (λ x. (at == place) || (x && c)) (equal_numbers other.visit test.visit)
    ∙ ap (λ x. (at == place) || ((other.visit == test.visit) && x)) (equal_texts other.point test.point)

-- ---- visits

passed_over : {X : Type 0} (b : Bool) (x : X) (o : Option X) → (if b then Some x else o) ≡ None → (b ≡ false) × (o ≡ None)
passed_over true x o none = absurd (none-some x (sym none))
passed_over false x o none = (refl, none)

none_is : {X : Type 0} (o : Option X) → is_none o ≡ true → o ≡ None
none_is None is = refl
none_is (Some x) is = cc

pub found_visit : (visit : VisitRow) (visits : List VisitRow) (row : Row) → Has (map stored_visit visits) row
    → conflicts None (tests_index ∷ []) visits_table (stored_visit visit) row ≡ true
    → (kept : VisitRow) × (visit_numbered visit.number visits ≡ Some kept)
found_visit visit [] row has clash = absurd has
found_visit visit (other ∷ rest) row (inl same) clash =
    let hit : (other.number == visit.number) ≡ true = sym (visit_conflicts visit other)
    ∙ subst (λ r. conflicts None (tests_index ∷ []) visits_table (stored_visit visit) r ≡ true) same clash in
    (other, rw hit refl)
found_visit visit (other ∷ rest) row (inr has) clash =
    let more = found_visit visit rest row has clash in
    elim (cases_Bool (other.number == visit.number)) [ inl hit ↦ (other, rw hit refl) | inr missed ↦ (more.0, rw missed more.1) ]

pub none_found : (visit : VisitRow) (visits : List VisitRow)
    → ((row : Row) → Has (map stored_visit visits) row → conflicts None (tests_index ∷ []) visits_table (stored_visit visit) row ≡ true → ⊥)
    → visit_numbered visit.number visits ≡ None
none_found visit [] free = refl
none_found visit (other ∷ rest) free =
    elim (cases_Bool (other.number == visit.number)) [
      | inl hit ↦ absurd (free (stored_visit other) (inl refl) (visit_conflicts visit other ∙ hit))
      | inr missed ↦ rw missed (none_found visit rest (λ row has. free row (inr has)))
    ]

pub record PutAmong (visit : VisitRow) (visits : List VisitRow) : Type 0 where
  pub front : List VisitRow
  pub back : List VisitRow
  pub before : visits ≡ front ++ back
  pub rows : put_row (stored_visit visit) (map stored_visit visits) ≡ map stored_visit (front ++ visit ∷ back)

put_before : (visit other : VisitRow) (rest : List VisitRow) → (other.number == visit.number) ≡ false → PutAmong visit rest
    → (o : Ordering) → value_cmp (Int (pos other.number)) (Int (pos visit.number)) ≡ o → PutAmong visit (other ∷ rest)
put_before visit other rest missed more Less is = record {
  front = other ∷ more.front;
  back = more.back;
  before = ap (λ xs. other ∷ xs) more.before;
  rows = rw is (ap (λ rows. stored_visit other ∷ rows) more.rows);
}
put_before visit other rest missed more Equal is =
    let tied : (other.number == visit.number) ≡ true = sym (unsigned_tied other.number visit.number) ∙ ap is_eq (sym (numbers_cmp other.number visit.number) ∙ is) in
    absurd (let clash : true ≡ false = sym tied ∙ missed in cc)
put_before visit other rest missed more Greater is = record { front = []; back = other ∷ rest; before = refl; rows = rw is refl }

pub put_among : (visit : VisitRow) (visits : List VisitRow) → visit_numbered visit.number visits ≡ None → PutAmong visit visits
put_among visit [] none = record { front = []; back = []; before = refl; rows = refl }
put_among visit (other ∷ rest) none =
    let passed = passed_over (other.number == visit.number) other (visit_numbered visit.number rest) none in
    put_before visit other rest passed.0 (put_among visit rest passed.1) (value_cmp (Int (pos other.number)) (Int (pos visit.number))) refl

none_with : (number : ℕ) (visit : VisitRow) (front back : List VisitRow) → visit_numbered number (front ++ back) ≡ None → (visit.number == number) ≡ false
    → visit_numbered number (front ++ visit ∷ back) ≡ None
none_with number visit [] back none apart = rw apart none
none_with number visit (first ∷ front) back none apart =
    let passed = passed_over (first.number == number) first (visit_numbered number (front ++ back)) none in
    rw (passed.0) (none_with number visit front back passed.1 apart)

pub distinct_numbers_with : (visit : VisitRow) (front back : List VisitRow) → have_distinct_numbers (front ++ back) ≡ true
    → visit_numbered visit.number (front ++ back) ≡ None → have_distinct_numbers (front ++ visit ∷ back) ≡ true
distinct_numbers_with visit [] back distinct none = and_from (is_none (visit_numbered visit.number back)) (have_distinct_numbers back) (ap is_none none) distinct
distinct_numbers_with visit (first ∷ front) back distinct none =
    let parts = and_parts (is_none (visit_numbered first.number (front ++ back))) (have_distinct_numbers (front ++ back)) distinct in
    let passed = passed_over (first.number == visit.number) first (visit_numbered visit.number (front ++ back)) none in
    let other : (visit.number == first.number) ≡ false = nat_eq_equiv.symm visit.number first.number ∙ passed.0 in
    let gone = none_with first.number visit front back (none_is (visit_numbered first.number (front ++ back)) parts.0) other in
    and_from (is_none (visit_numbered first.number (front ++ visit ∷ back))) (have_distinct_numbers (front ++ visit ∷ back)) (ap is_none gone)
    (distinct_numbers_with visit front back parts.1 passed.1)

-- ---- tests

pub next_place : (place : ℕ) (tests : List TestRow) → fold (λ (_ : ℤ) (r : Row). id_in (rowid r) +ℤ pos 1) (pos place) (stored_tests place tests) ≡ pos (place + length tests)
next_place place [] = ap pos (omega arith)
next_place place (test ∷ rest) = next_place (place + 1) rest ∙ ap pos (omega arith)

-- a row behind the others comes last
pub put_last : (place last : ℕ) (tests : List TestRow) (test : TestRow) → last ≡ place + length tests
    → put_row (stored_test last test) (stored_tests place tests) ≡ stored_tests place (tests ++ test ∷ [])
put_last place last [] test is = ap (λ n. stored_test n test ∷ []) (is ∙ omega arith)
put_last place last (first ∷ rest) test is =
    rw (below place last (omega (arith, is))) (ap (λ rows. stored_test place first ∷ rows) (put_last (place + 1) last rest test (is ∙ omega arith)))

pub found_test : (place last : ℕ) (tests : List TestRow) (test : TestRow) (row : Row) → place + length tests ≤ last → Has (stored_tests place tests) row
    → conflicts None (tests_index ∷ []) tests_table (stored_test last test) row ≡ true → has_test test tests ≡ true
found_test place last [] test row low has clash = absurd has
found_test place last (first ∷ rest) test row low (inl same) clash =
    let either : ((place == last) || is_same_test test first) ≡ true = sym (test_conflicts last place test first)
    ∙ subst (λ r. conflicts None (tests_index ∷ []) tests_table (stored_test last test) r ≡ true) same clash in
    let hit : is_same_test test first ≡ true = ap (λ b. b || is_same_test test first) (sym (apart place last (omega (arith, low)))) ∙ either in
    rw hit refl
found_test place last (first ∷ rest) test row low (inr has) clash =
    let more = found_test (place + 1) last rest test row (omega (arith, low)) has clash in
    elim (cases_Bool (is_same_test test first)) [ inl hit ↦ rw hit refl | inr missed ↦ rw missed more ]

pub no_test : (place last : ℕ) (tests : List TestRow) (test : TestRow)
    → ((row : Row) → Has (stored_tests place tests) row → conflicts None (tests_index ∷ []) tests_table (stored_test last test) row ≡ true → ⊥)
    → has_test test tests ≡ false
no_test place last [] test free = refl
no_test place last (first ∷ rest) test free =
    elim (cases_Bool (is_same_test test first)) [
      | inl hit ↦ absurd (free (stored_test place first) (inl refl) (test_conflicts last place test first ∙ rw hit (or_true (place == last))))
      | inr missed ↦ rw missed (no_test (place + 1) last rest test (λ row has. free row (inr has)))
    ]
  where
    or_true : (b : Bool) → (b || true) ≡ true
    or_true true = refl
    or_true false = refl

same_test_symm : (a b : TestRow) → is_same_test a b ≡ is_same_test b a
same_test_symm a b =
    ap (λ t. t && bytes_eq b.point a.point) (nat_eq_equiv.symm b.visit a.visit) ∙ ap (λ t. (a.visit == b.visit) && t) (nat_list_eq_equiv.symm b.point a.point)

pub distinct_tests_with : (tests : List TestRow) (test : TestRow) → are_distinct_tests tests ≡ true → has_test test tests ≡ false
    → are_distinct_tests (tests ++ test ∷ []) ≡ true
distinct_tests_with [] test distinct none = refl
distinct_tests_with (first ∷ rest) test distinct none =
    let parts = and_parts (not (has_test first rest)) (are_distinct_tests rest) distinct in
    let passed = or_parts (is_same_test test first) (has_test test rest) none in
    let other : is_same_test first test ≡ false = same_test_symm first test ∙ passed.0 in
    let gone : has_test first (rest ++ test ∷ []) ≡ has_test first rest =
    list_any-append (is_same_test first) rest (test ∷ []) ∙ rw other (or_false (has_test first rest)) in
    and_from (not (has_test first (rest ++ test ∷ []))) (are_distinct_tests (rest ++ test ∷ [])) (ap not gone ∙ parts.0) (distinct_tests_with rest test parts.1 passed.1)
  where
    or_false : (b : Bool) → (b || false) ≡ b
    or_false true = refl
    or_false false = refl

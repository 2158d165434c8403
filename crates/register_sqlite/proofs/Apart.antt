-- No two tests of a register have one key, as the database asks of them.
use Rattle.std.proofs.Common.{◌≡◌, ◌&&◌, ℕ, ◌+◌, pos, Bool, true, false, not, List, [], ◌∷◌, refl, ap, ◌∙◌}
use Rattle.std.specs.Prelude.{◌==◌, Some}
use Rattle.std.specs.List.{AllByRecursion, list_any}
use Rattle.std.specs.Ordering.{is_eq, is_ne}
use Rattle.std.specs.declared.cmp.Ordering.{Ordering}
use Rattle.std.specs.declared.cmp.Ordering.TheVariants.{Less, Equal, Greater}
use Rattle.std.specs.Cmp.{unsigned_tied}
use Rattle.std.specs.Str.{bytes_eq}
use Rattle.std.proofs.lemmas.Bool.{and_parts, or_parts}
use Rattle.std.proofs.lemmas.Cmp.{nat_eq_equiv, nat_list_eq_equiv}
use Rattle.sqlite_value.specs.Keys.{first_key, plain}
use Rattle.sqlite_value.specs.Order.{Row, value_cmp}
use Rattle.sqlite_value.specs.declared.keys.Collation.{Collation}
use Rattle.sqlite_value.specs.declared.keys.Collation.TheVariants.{Binary}
use Rattle.sqlite_value.specs.declared.value.Value.TheVariants.{Int, Text}
use Rattle.sqlite_value.proofs.KeyLemmas.{first_key-plain}
use Rattle.sqlite_sql.specs.Ops.{binary, from_truth, is_true}
use Rattle.sqlite_schema.specs.Rules.{agree, differ, equal}
use Rattle.sqlite_trees.specs.Tree.{rowid}
use Rattle.service_keepers.specs.Tables.{TestRow, are_distinct_tests, has_test, is_same_test}
use Rattle.register_sqlite.specs.Stored.{stored_test, stored_tests}
use Rattle.register_sqlite.proofs.Compared.{equal_numbers, equal_texts, numbers_cmp}

-- two rows have one key and are not one row
abbrev pub clash : Row → Row → Bool
clash row other = agree plain (1 ∷ 2 ∷ []) other (1 ∷ 2 ∷ []) row && differ (rowid other) (rowid row)

truth_back : (b : Bool) → is_true (from_truth (Some b)) ≡ b
truth_back true = refl
truth_back false = refl

ne_is : (o : Ordering) → is_ne o ≡ not (is_eq o)
ne_is Less = refl
ne_is Equal = refl
ne_is Greater = refl

same_place : (n : ℕ) → differ (Int (pos n)) (Int (pos n)) ≡ false
unfolding binary
same_place n =
    truth_back (is_ne (value_cmp (Int (pos n)) (Int (pos n)))) ∙ ne_is (value_cmp (Int (pos n)) (Int (pos n)))
    ∙ ap (λ o. not (is_eq o)) (numbers_cmp n n) ∙ ap not (unsigned_tied n n ∙ nat_eq_equiv.refl n)

two_parts : (b c : Bool) → (b && (c && true)) ≡ (b && c)
two_parts true true = refl
two_parts true false = refl
two_parts false c = refl

one_key : (place at : ℕ) (test other : TestRow) → agree plain (1 ∷ 2 ∷ []) (stored_test at other) (1 ∷ 2 ∷ []) (stored_test place test) ≡ is_same_test test other
one_key place at test other =
    let plain_is : (first_key plain).collation ≡ Binary = ap (λ k. k.collation) first_key-plain in
    ap (λ (k : Collation). equal k (Int (pos other.visit)) (Int (pos test.visit)) && (equal k (Text other.point) (Text test.point) && true)) plain_is
    ∙ two_parts (equal Binary (Int (pos other.visit)) (Int (pos test.visit))) (equal Binary (Text other.point) (Text test.point))
    ∙ ap (λ x. x && equal Binary (Text other.point) (Text test.point)) (equal_numbers other.visit test.visit)
    ∙ ap (λ x. (other.visit == test.visit) && x) (equal_texts other.point test.point)

and_false : (b : Bool) → (b && false) ≡ false
and_false true = refl
and_false false = refl

-- another test has another key
apart : (place at : ℕ) (test other : TestRow) → is_same_test test other ≡ false → clash (stored_test place test) (stored_test at other) ≡ false
apart place at test other other_key = ap (λ b. b && differ (Int (pos at)) (Int (pos place))) (one_key place at test other ∙ other_key)

itself : (place : ℕ) (test : TestRow) → clash (stored_test place test) (stored_test place test) ≡ false
itself place test =
    ap (λ b. agree plain (1 ∷ 2 ∷ []) (stored_test place test) (1 ∷ 2 ∷ []) (stored_test place test) && b) (same_place place)
    ∙ and_false (agree plain (1 ∷ 2 ∷ []) (stored_test place test) (1 ∷ 2 ∷ []) (stored_test place test))

none_after : (place at : ℕ) (test : TestRow) (rest : List TestRow) → has_test test rest ≡ false → list_any (clash (stored_test place test)) (stored_tests at rest) ≡ false
none_after place at test [] none = refl
none_after place at test (other ∷ rest) none =
    let parts = or_parts (is_same_test test other) (has_test test rest) none in
    rw (apart place at test other parts.0) (none_after place (at + 1) test rest parts.1)

symm : (a b : TestRow) → is_same_test a b ≡ is_same_test b a
symm a b =
    ap (λ t. t && bytes_eq b.point a.point) (nat_eq_equiv.symm b.visit a.visit) ∙ ap (λ t. (a.visit == b.visit) && t) (nat_list_eq_equiv.symm b.point a.point)

-- the first row is apart from those behind it
first_apart : (place at : ℕ) (test : TestRow) (rest : List TestRow) (all : List Row) → has_test test rest ≡ false
    → AllByRecursion (λ row. list_any (clash row) all ≡ false) (stored_tests at rest)
    → AllByRecursion (λ row. list_any (clash row) (stored_test place test ∷ all) ≡ false) (stored_tests at rest)
first_apart place at test [] all none h = h
first_apart place at test (other ∷ rest) all none h =
    let parts = or_parts (is_same_test test other) (has_test test rest) none in
    (rw (apart at place other test (symm other test ∙ parts.0)) h.0, first_apart place (at + 1) test rest all parts.1 h.1)

not_is : (b : Bool) → not b ≡ true → b ≡ false
not_is true is = cc
not_is false is = refl

pub none_clashes : (place : ℕ) (tests : List TestRow) → are_distinct_tests tests ≡ true
    → AllByRecursion (λ row. list_any (clash row) (stored_tests place tests) ≡ false) (stored_tests place tests)
none_clashes place [] distinct = tt
none_clashes place (test ∷ rest) distinct =
    let parts = and_parts (not (has_test test rest)) (are_distinct_tests rest) distinct in
    let none = not_is (has_test test rest) parts.0 in
    (rw (itself place test) (none_after place (place + 1) test rest none), first_apart place (place + 1) test rest (stored_tests (place + 1) rest) none (none_clashes (place + 1) rest parts.1))

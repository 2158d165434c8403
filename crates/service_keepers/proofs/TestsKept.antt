-- A test that is put is kept.
use Rattle.std.proofs.Common.{◌≡◌, ◌∙◌, ◌==◌, ◌||◌, Bool, true, false, List, ◌∷◌, refl, ap}
use Rattle.std.specs.Prelude.{MatchBool}
use Rattle.std.specs.Str.{bytes_eq}
use Rattle.std.proofs.lemmas.Bool.{and_from}
use Rattle.std.proofs.lemmas.Cmp.{nat_eq_equiv, nat_list_eq_equiv}
use Rattle.std.proofs.lemmas.List.Folds.{list_any-append}
use Rattle.service_keepers.specs.Keeping.{AddsTest, Gains, PutsTest}
use Rattle.service_keepers.specs.Tables.{Tables, TestRow, has_test, is_same_test}

or_true : (b : Bool) → (b || true) ≡ true
or_true true = refl
or_true false = refl

same_test : (test : TestRow) → is_same_test test test ≡ true
same_test test =
    and_from (test.visit == test.visit) (bytes_eq test.point test.point) (nat_eq_equiv.refl test.visit) (nat_list_eq_equiv.refl test.point)

gained_is_kept : (test : TestRow) (old new : List TestRow) → Gains test old new → has_test test new ≡ true
gained_is_kept test old new gains =
    ap (has_test test) gains.after ∙ list_any-append (is_same_test test) gains.front (test ∷ gains.back)
    ∙ ap (λ b. has_test test gains.front || (b || has_test test gains.back)) (same_test test) ∙ or_true (has_test test gains.front)

kept_by : (test : TestRow) (old new : Tables) (kept : Bool) → has_test test old.tests ≡ kept → MatchBool kept (new ≡ old) (AddsTest test old new)
    → has_test test new.tests ≡ true
kept_by test old new true is same = ap (λ (t : Tables). has_test test t.tests) same ∙ is
kept_by test old new false is adds = gained_is_kept test old.tests new.tests adds.tests

pub test_kept : (test : TestRow) (old new : Tables) → PutsTest test old new → has_test test new.tests ≡ true
test_kept test old new puts = kept_by test old new (has_test test old.tests) refl puts

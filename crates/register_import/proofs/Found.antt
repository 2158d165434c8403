-- What is found after visits and tests are put.
use Rattle.std.proofs.Common.{◌≡◌, ◌||◌, ◌==◌, ℕ, Bool, true, false, List, [], ◌∷◌, ◌++◌, Option, Some, None, refl, sym, ap, ◌∙◌, subst}
use Rattle.std.specs.Prelude.{MatchBool, MatchOption, if◌then◌else◌, is_some}
use Rattle.std.specs.List.{find}
use Rattle.std.specs.Option.{option_or}
use Rattle.std.proofs.lemmas.Bool.{eqb-true}
use Rattle.std.proofs.lemmas.List.{append-nil}
use Rattle.std.proofs.lemmas.List.Folds.{find-append, list_any-append}
use Rattle.service_keepers.specs.Keeping.{AddsTest, AddsVisit, Gains, PutsTest, PutsVisit}
use Rattle.service_keepers.specs.MemoryRows.{with_visit}
use Rattle.service_keepers.specs.Tables.{Tables, TestRow, VisitRow, has_test, is_same_test, visit_numbered}

-- ---- visits

-- a visit, where it has the number
abbrev pub of_number : ℕ → VisitRow → Option VisitRow
of_number number visit = if visit.number == number then Some visit else None

pub or_none : {X : Type 0} (o : Option X) → option_or o None ≡ o
or_none None = refl
or_none (Some x) = refl

pub or_assoc : {X : Type 0} (a b c : Option X) → option_or (option_or a b) c ≡ option_or a (option_or b c)
or_assoc None b c = refl
or_assoc (Some x) b c = refl

found_first : (visit : VisitRow) (here : Bool) (rest : Option VisitRow)
    → (if here then Some visit else rest) ≡ option_or (if here then Some visit else None) rest
found_first visit true rest = refl
found_first visit false rest = refl

moved_back : (front back : Option VisitRow) (visit : VisitRow) (here : Bool) → (here ≡ true → option_or front back ≡ None)
    → option_or front (option_or (if here then Some visit else None) back) ≡ option_or (option_or front back) (if here then Some visit else None)
moved_back None None visit here none = or_none (if here then Some visit else None)
moved_back None (Some w) visit true none = absurd (let e = none refl in cc)
moved_back None (Some w) visit false none = refl
moved_back (Some w) back visit true none = absurd (let e = none refl in cc)
moved_back (Some w) back visit false none = refl

gained_found : (visit : VisitRow) (old new : List VisitRow) → visit_numbered visit.number old ≡ None → Gains visit old new → (number : ℕ)
    → visit_numbered number new ≡ option_or (visit_numbered number old) (of_number number visit)
gained_found visit old new none gains number =
    let test = λ (v : VisitRow). v.number == number in
    let front = find test gains.front in
    let back = find test gains.back in
    let here = visit.number == number in
    let split : visit_numbered number old ≡ option_or front back = ap (find test) gains.before ∙ find-append test gains.front gains.back in
    let gone : here ≡ true → option_or front back ≡ None =
    λ same. sym split ∙ subst (λ (n : ℕ). visit_numbered n old ≡ None) (eqb-true visit.number number same) none in
    ap (find test) gains.after ∙ find-append test gains.front (visit ∷ gains.back)
    ∙ ap (λ o. option_or front o) (found_first visit here back) ∙ moved_back front back visit here gone
    ∙ ap (λ o. option_or o (of_number number visit)) (sym split)

kept_found : (found : Option VisitRow) (visit kept : VisitRow) (here : Bool) → (here ≡ true → found ≡ Some kept)
    → found ≡ option_or found (if here then Some visit else None)
kept_found None visit kept true is = absurd (let e = is refl in cc)
kept_found None visit kept false is = refl
kept_found (Some w) visit kept here is = refl

found_by : (visit : VisitRow) (old new : Tables) (kept : Option VisitRow) → visit_numbered visit.number old.visits ≡ kept
    → MatchOption kept (AddsVisit visit old new) (λ same. new ≡ old) → (number : ℕ)
    → visit_numbered number new.visits ≡ option_or (visit_numbered number old.visits) (of_number number visit)
found_by visit old new None is adds number = gained_found visit old.visits new.visits is adds.visits number
found_by visit old new (Some kept) is same number =
    ap (λ (t : Tables). visit_numbered number t.visits) same
    ∙ kept_found (visit_numbered number old.visits) visit kept (visit.number == number)
    (λ here. subst (λ (n : ℕ). visit_numbered n old.visits ≡ Some kept) (eqb-true visit.number number here) is)

-- behind what was found stands the visit that was put
pub visit_found : (visit : VisitRow) (old new : Tables) → PutsVisit visit old new → (number : ℕ)
    → visit_numbered number new.visits ≡ option_or (visit_numbered number old.visits) (of_number number visit)
visit_found visit old new puts number = found_by visit old new (visit_numbered visit.number old.visits) refl puts number

puts_by : (visit : VisitRow) (tables : Tables) (kept : Option VisitRow) →
    MatchOption kept (AddsVisit visit tables (if is_some kept then tables else record tables { visits = tables.visits ++ visit ∷ [] }))
    (λ same. (if is_some kept then tables else record tables { visits = tables.visits ++ visit ∷ [] }) ≡ tables)
puts_by visit tables None = record {
  visits = record { front = tables.visits; back = []; before = sym (append-nil tables.visits); after = refl };
  tests = refl;
}
puts_by visit tables (Some same) = refl

-- a visit behind the others is put
pub puts_with : (visit : VisitRow) (tables : Tables) → PutsVisit visit tables (with_visit visit tables)
puts_with visit tables = puts_by visit tables (visit_numbered visit.number tables.visits)

same_visits_by : (test : TestRow) (old new : Tables) (kept : Bool) → MatchBool kept (new ≡ old) (AddsTest test old new) → new.visits ≡ old.visits
same_visits_by test old new true same = ap (λ (t : Tables). t.visits) same
same_visits_by test old new false adds = adds.visits

-- a test changes no visits
pub same_visits : (test : TestRow) (old new : Tables) → PutsTest test old new → new.visits ≡ old.visits
same_visits test old new puts = same_visits_by test old new (has_test test old.tests) puts

-- ---- tests

same_tests_by : (visit : VisitRow) (old new : Tables) (kept : Option VisitRow) → MatchOption kept (AddsVisit visit old new) (λ same. new ≡ old)
    → new.tests ≡ old.tests
same_tests_by visit old new None adds = adds.tests
same_tests_by visit old new (Some kept) same = ap (λ (t : Tables). t.tests) same

-- a visit changes no tests
pub same_tests : (visit : VisitRow) (old new : Tables) → PutsVisit visit old new → new.tests ≡ old.tests
same_tests visit old new puts = same_tests_by visit old new (visit_numbered visit.number old.visits) puts

still_true : (a b c : Bool) → (a || c) ≡ true → (a || (b || c)) ≡ true
still_true true b c is = refl
still_true false true c is = refl
still_true false false c is = is

still_kept_in : (other test : TestRow) (old new : List TestRow) → Gains test old new → has_test other old ≡ true → has_test other new ≡ true
still_kept_in other test old new gains is =
    let split : (has_test other gains.front || has_test other gains.back) ≡ true =
    sym (list_any-append (is_same_test other) gains.front gains.back) ∙ ap (has_test other) (sym gains.before) ∙ is in
    ap (has_test other) gains.after ∙ list_any-append (is_same_test other) gains.front (test ∷ gains.back)
    ∙ still_true (has_test other gains.front) (is_same_test other test) (has_test other gains.back) split

still_kept_by : (other test : TestRow) (old new : Tables) (kept : Bool) → MatchBool kept (new ≡ old) (AddsTest test old new)
    → has_test other old.tests ≡ true → has_test other new.tests ≡ true
still_kept_by other test old new true same is = ap (λ (t : Tables). has_test other t.tests) same ∙ is
still_kept_by other test old new false adds is = still_kept_in other test old.tests new.tests adds.tests is

-- a test that is kept stays
pub still_kept : (other test : TestRow) (old new : Tables) → PutsTest test old new → has_test other old.tests ≡ true → has_test other new.tests ≡ true
still_kept other test old new puts is = still_kept_by other test old new (has_test test old.tests) puts is

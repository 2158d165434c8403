-- A visit and a test that are put twice are put once.
use Rattle.std.proofs.Common.{◌≡◌, ◌==◌, ℕ, Bool, true, false, List, ◌∷◌, Option, Some, None, refl, sym, ap, ◌∙◌}
use Rattle.std.specs.Prelude.{Result, Ok, Err, MatchBool, MatchOption}
use Rattle.std.specs.List.{find}
use Rattle.std.specs.Option.{option_or}
use Rattle.std.proofs.lemmas.Cmp.{nat_eq_equiv}
use Rattle.std.proofs.lemmas.List.Folds.{find-append}
use Rattle.std.proofs.lemmas.Option.{same_Some}
use Rattle.service_keepers.specs.Keeping.{AddsTest, AddsVisit, Gains}
use Rattle.service_keepers.specs.Tables.{Tables, TestRow, VisitRow, has_test, visit_numbered}
use Rattle.service_keepers.proofs.TestsKept.{test_kept}
use Rattle.service_register.specs.Answers.{TestAnswered, VisitAnswered}
use Rattle.service_register.specs.Laws.{IsOkOrFault}
use Rattle.service_register.specs.declared.refusal.RegisterRefusal.{RegisterRefusal}
use Rattle.service_register.specs.declared.refusal.RegisterRefusal.TheVariants.{Differs, KeeperFault, NoMemory, NoSuchPoint, NoSuchVisit}

-- ---- visits

none_first : {X : Type 0} (a b : Option X) → option_or a b ≡ None → a ≡ None
none_first None b none = refl
none_first (Some x) b none = absurd (cc)

find_here : (number : ℕ) (visit : VisitRow) (back : List VisitRow) → (visit.number == number) ≡ true
    → visit_numbered number (visit ∷ back) ≡ Some visit
find_here number visit back same = rw same refl

-- a visit of a new number that was added is found
gained_is_found : (visit : VisitRow) (old new : List VisitRow) → visit_numbered visit.number old ≡ None → Gains visit old new
    → visit_numbered visit.number new ≡ Some visit
gained_is_found visit old new none gains =
    let test = λ (v : VisitRow). v.number == visit.number in
    let split : option_or (find test gains.front) (find test gains.back) ≡ None =
    sym (find-append test gains.front gains.back) ∙ ap (visit_numbered visit.number) (sym gains.before) ∙ none in
    let front : find test gains.front ≡ None = none_first (find test gains.front) (find test gains.back) split in
    ap (visit_numbered visit.number) gains.after ∙ find-append test gains.front (visit ∷ gains.back)
    ∙ ap (λ o. option_or o (find test (visit ∷ gains.back))) front
    ∙ find_here visit.number visit gains.back (nat_eq_equiv.refl visit.number)

found_by : (visit : VisitRow) (a b : Tables) (kept : Option VisitRow) → visit_numbered visit.number a.visits ≡ kept →
    MatchOption kept (AddsVisit visit a b) (λ same. (same ≡ visit) × (b ≡ a)) → visit_numbered visit.number b.visits ≡ Some visit
found_by visit a b None is adds = gained_is_found visit a.visits b.visits is adds.visits
found_by visit a b (Some kept) is same = ap (λ (t : Tables). visit_numbered visit.number t.visits) same.1 ∙ is ∙ ap Some same.0

found_after : (visit : VisitRow) (a b : Tables) → VisitAnswered visit (Ok tt) a b → visit_numbered visit.number b.visits ≡ Some visit
found_after visit a b first = found_by visit a b (visit_numbered visit.number a.visits) refl first

same_by : (visit : VisitRow) (b c : Tables) (kept : Option VisitRow) → kept ≡ Some visit →
    MatchOption kept (AddsVisit visit b c) (λ same. (same ≡ visit) × (c ≡ b)) → c ≡ b
same_by visit b c None is adds = absurd (cc)
same_by visit b c (Some kept) is same = same.1

pub visit_twice : (visit : VisitRow) (again : Result (Unit {0}) RegisterRefusal) (a b c : Tables)
    → VisitAnswered visit (Ok tt) a b → VisitAnswered visit again b c → c ≡ b
visit_twice visit (Ok done) a b c first second =
    same_by visit b c (visit_numbered visit.number b.visits) (found_after visit a b first) second
visit_twice visit (Err (Differs other)) a b c first second = second.1
visit_twice visit (Err NoSuchPoint) a b c first second = absurd second
visit_twice visit (Err NoSuchVisit) a b c first second = absurd second
visit_twice visit (Err KeeperFault) a b c first second = second
visit_twice visit (Err NoMemory) a b c first second = second

pub visit_answer : (visit : VisitRow) (again : Result (Unit {0}) RegisterRefusal) (a b c : Tables)
    → VisitAnswered visit (Ok tt) a b → VisitAnswered visit again b c → IsOkOrFault again
visit_answer visit (Ok done) a b c first second = tt
visit_answer visit (Err (Differs other)) a b c first second =
    absurd (second.0.apart (same_Some _ visit (sym second.0.found ∙ found_after visit a b first)))
visit_answer visit (Err NoSuchPoint) a b c first second = second
visit_answer visit (Err NoSuchVisit) a b c first second = second
visit_answer visit (Err KeeperFault) a b c first second = tt
visit_answer visit (Err NoMemory) a b c first second = tt

-- ---- tests

unchanged_by : (test : TestRow) (b c : Tables) (kept : Bool) → kept ≡ true → MatchBool kept (c ≡ b) (AddsTest test b c) → c ≡ b
unchanged_by test b c true is same = same
unchanged_by test b c false is adds = absurd (cc)

pub test_twice : (test : TestRow) (again : Result (Unit {0}) RegisterRefusal) (a b c : Tables)
    → TestAnswered test (Ok tt) a b → TestAnswered test again b c → c ≡ b
test_twice test (Ok done) a b c first second =
    unchanged_by test b c (has_test test b.tests) (test_kept test a b first.puts) second.puts
test_twice test (Err (Differs other)) a b c first second = absurd second
test_twice test (Err NoSuchPoint) a b c first second = second
test_twice test (Err NoSuchVisit) a b c first second = second.1
test_twice test (Err KeeperFault) a b c first second = second
test_twice test (Err NoMemory) a b c first second = second

-- Visits and tests that are put in turn, where the keeper tells its tables.
use Rattle.std.proofs.Common.{◌≡◌, ◌+◌, ◌<◌, ◌≤◌, inl, inr, ℕ, Bool, true, false, List, [], ◌∷◌, ◌++◌, Option, Some, None, refl, sym, ap, ◌∙◌, subst}
use Rattle.std.proofs.Common.{arith, drop, get_or, length, take, add-one, drop-cons, take-append-drop}
use Rattle.std.specs.Prelude.{Result, Ok, Err, MatchBool, MatchOption, slice_get}
use Rattle.std.proofs.lemmas.Grind.{take_at_read}
use Rattle.std.proofs.lemmas.List.{map-append, take_all}
use Rattle.service_keepers.specs.Keeping.{AddsTest, AddsVisit, ChangesBy}
use Rattle.service_keepers.specs.Tables.{Tables, TestRow, VisitRow, has_test, visit_numbered}
use Rattle.service_register.specs.Answers.{AcceptsTest, AcceptsVisit, TestAnswered, VisitAnswered, test_named}
use Rattle.service_register.specs.declared.refusal.RegisterRefusal.{RegisterRefusal}
use Rattle.service_register.specs.declared.refusal.RegisterRefusal.TheVariants.{Differs, KeeperFault, NoMemory, NoSuchPoint, NoSuchVisit}
use Rattle.service_register.proofs.Twice.{visit_twice}
use Rattle.site_types.specs.declared.site.Site.{Site}
use Rattle.desk_register.specs.Puts.{PutsFirstTests, PutsTests, name_of_point, test_at, tests_at}
use Rattle.desk_register.specs.Taken.{IsOfTests, TestsTaken, VisitTaken}

-- ---- steps of told tables

-- no step
pub stays : (told : Option Tables) → ChangesBy (PutsTests []) told told
stays None = tt
stays (Some kept) = refl

-- a step that is another one too
pub goes_as : (S T : Tables → Tables → Type 0) → ((a b : Tables) → S a b → T a b) → (a b : Option Tables) → ChangesBy S a b → ChangesBy T a b
goes_as S T same None b s = tt
goes_as S T same (Some a) None s = absurd s
goes_as S T same (Some a) (Some b) s = same a b s

-- two steps, one behind the other
pub goes_on : (S T U : Tables → Tables → Type 0) → ((a b c : Tables) → S a b → T b c → U a c) → (a b c : Option Tables)
    → ChangesBy S a b → ChangesBy T b c → ChangesBy U a c
goes_on S T U joins None b c s t = tt
goes_on S T U joins (Some a) None c s t = absurd s
goes_on S T U joins (Some a) (Some b) None s t = absurd t
goes_on S T U joins (Some a) (Some b) (Some c) s t = joins a b c s t

-- ---- tests

-- one test more is put
pub tests_more : (tests : List TestRow) (test : TestRow) (a b c : Tables) → PutsTests tests a b → AcceptsTest test b c
    → PutsTests (tests ++ test ∷ []) a c
tests_more [] test a b c before puts = (c, subst (λ (t : Tables). AcceptsTest test t c) before puts, refl)
tests_more (first ∷ rest) test a b c before puts = (before.0, before.1, tests_more rest test before.0 b c before.2 puts)

visits_stay_by : (test : TestRow) (old new : Tables) (kept : Bool) → MatchBool kept (new ≡ old) (AddsTest test old new)
    → new.visits ≡ old.visits
visits_stay_by test old new true same = ap (λ (t : Tables). t.visits) same
visits_stay_by test old new false adds = adds.visits

-- tests leave the visits as they are
visits_stay : (tests : List TestRow) (a b : Tables) → PutsTests tests a b → b.visits ≡ a.visits
visits_stay [] a b same = ap (λ (t : Tables). t.visits) same
visits_stay (test ∷ tests) a b puts =
    visits_stay tests puts.0 b puts.2 ∙ visits_stay_by test a puts.0 (has_test test a.tests) puts.1.puts

first_tests : (front : List TestRow) (next : TestRow) (back : List TestRow) (a b c : Tables) → PutsTests front a b → c ≡ b
    → PutsFirstTests (front ++ next ∷ back) a c
first_tests front next back a b c puts same =
    record { front = front; next = next; back = back; are = refl; puts = subst (PutsTests front a) (sym same) puts }

-- behind some first tests one is refused
pub tests_end : (number : ℕ) (name : List ℕ) (front back : List TestRow) (why : RegisterRefusal) → IsOfTests why → (a b c : Tables) → PutsTests front a b
    → TestAnswered (test_named number name) (Err why) b c → TestsTaken number (front ++ test_named number name ∷ back) (Err why) a c
tests_end number name front back NoSuchPoint of a b c puts answered = absurd of
tests_end number name front back (Differs other) of a b c puts answered = absurd of
tests_end number name front back NoSuchVisit of a b c puts answered =
    sym (ap (visit_numbered number) (visits_stay front a b puts)) ∙ answered.0
tests_end number name front back KeeperFault of a b c puts same = first_tests front (test_named number name) back a b c puts same
tests_end number name front back NoMemory of a b c puts same = first_tests front (test_named number name) back a b c puts same

pub tests_end_at : (site : Site) (number place : ℕ) (front back : List TestRow) (why : RegisterRefusal) → IsOfTests why → (a b c : Tables) → PutsTests front a b
    → TestAnswered (test_at site number place) (Err why) b c → TestsTaken number (front ++ test_at site number place ∷ back) (Err why) a c
tests_end_at site number place front back why of a b c puts answered =
    tests_end number (name_of_point (slice_get site.points place)) front back why of a b c puts answered

-- ---- a visit with its tests

-- a visit that was accepted is kept
is_kept : (visit : VisitRow) (a b : Tables) → AcceptsVisit visit a b → visit_numbered visit.number b.visits ≡ None → ⊥
is_kept visit a b accepts none =
    let c : Tables = record { visits = visit ∷ b.visits; tests = b.tests } in
    let adds : AddsVisit visit b c =
    record { visits = record { front = []; back = b.visits; before = refl; after = refl }; tests = refl } in
    let again : VisitAnswered visit (Ok tt) b c =
    subst (λ (o : Option VisitRow). MatchOption o (AddsVisit visit b c) (λ kept. (kept ≡ visit) × (c ≡ b))) (sym none) adds in
    let same : c ≡ b = visit_twice visit (Ok tt) a b c accepts again in
    let long = ap (λ (t : Tables). length t.visits) same in
    omega (arith, long)

-- behind a visit that was accepted its tests are taken
pub visit_then : (visit : VisitRow) (tests : List TestRow) (result : Result (Unit {0}) RegisterRefusal) (a b c : Tables) → AcceptsVisit visit a b
    → TestsTaken visit.number tests result b c → VisitTaken visit tests result a c
visit_then visit tests (Ok done) a b c accepts taken = record { between = b; accepts = accepts; puts = taken }
visit_then visit tests (Err NoSuchPoint) a b c accepts taken = absurd taken
visit_then visit tests (Err (Differs other)) a b c accepts taken = absurd taken
visit_then visit tests (Err NoSuchVisit) a b c accepts none = absurd (is_kept visit a b accepts none)
visit_then visit tests (Err KeeperFault) a b c accepts taken = inr (record { between = b; accepts = accepts; puts = taken })
visit_then visit tests (Err NoMemory) a b c accepts taken = inr (record { between = b; accepts = accepts; puts = taken })

-- a visit that is refused
pub visit_ends : (visit : VisitRow) (tests : List TestRow) (why : RegisterRefusal) (a b : Tables) → VisitAnswered visit (Err why) a b
    → VisitTaken visit tests (Err why) a b
visit_ends visit tests NoSuchPoint a b answered = answered
visit_ends visit tests (Differs other) a b answered = answered
visit_ends visit tests NoSuchVisit a b answered = answered
visit_ends visit tests KeeperFault a b same = inl same
visit_ends visit tests NoMemory a b same = inl same

-- ---- the place at an index

split_at : (places : List ℕ) (index place : ℕ) → index < length places → place ≡ get_or places index 0
    → places ≡ take index places ++ place ∷ drop (index + 1) places
split_at places index place within is =
    let here : drop index places ≡ get_or places index 0 ∷ drop (index + 1) places = rw (add-one, drop-cons places index 0) refl in
    sym (take-append-drop index places) ∙ ap (λ xs. take index places ++ xs) (here ∙ ap (λ p. p ∷ drop (index + 1) places) (sym is))

-- all tests, by the one at an index
pub tests_around : (site : Site) (number : ℕ) (places : List ℕ) (index place : ℕ) → index < length places → place ≡ get_or places index 0
    → tests_at site number places
    ≡ tests_at site number (take index places) ++ test_at site number place ∷ tests_at site number (drop (index + 1) places)
tests_around site number places index place within is =
    ap (tests_at site number) (split_at places index place within is)
    ∙ map-append (test_at site number) (take index places) (place ∷ drop (index + 1) places)

-- the first tests with the one at an index
pub tests_up_to : (site : Site) (number : ℕ) (places : List ℕ) (index place : ℕ) → index < length places → place ≡ get_or places index 0
    → tests_at site number (take (index + 1) places) ≡ tests_at site number (take index places) ++ test_at site number place ∷ []
tests_up_to site number places index place within is =
    ap (tests_at site number) ((take_at_read places index 0 within).1 ∙ ap (λ p. take index places ++ p ∷ []) (sym is))
    ∙ map-append (test_at site number) (take index places) (place ∷ [])

-- all tests
pub all_taken : (site : Site) (number : ℕ) (places : List ℕ) (index : ℕ) (old new : Option Tables) → length places ≤ index
    → ChangesBy (PutsTests (tests_at site number (take index places))) old new
    → ChangesBy (TestsTaken number (tests_at site number places) (Ok tt)) old new
all_taken site number places index old new past puts =
    subst (λ (first : List ℕ). ChangesBy (PutsTests (tests_at site number first)) old new) (take_all index places past) puts

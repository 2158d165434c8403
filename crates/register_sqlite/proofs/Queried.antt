-- What the two texts that read answer over a register.
use Rattle.std.proofs.Common.{◌≡◌, ◌&&◌, ◌||◌, inl, inr, ℕ, ◌+◌, pos, Bool, true, false, List, [], ◌∷◌, length, map, Some, None, Option, refl, sym, ap, subst, ◌∙◌, arith}
use Rattle.std.specs.Prelude.{◌==◌, All, if◌then◌else◌, is_none, filter, flat_map, nat_lt, slice_index_or}
use Rattle.std.proofs.lemmas.List.Elements.{All-filter, All-from_recursion, All-map}
use Rattle.std.specs.List.{filter_map, fold, list_all, list_any}
use Rattle.std.specs.List.Sorted.{IsPermutation}
use Rattle.std.specs.Option.{option_to_list}
use Rattle.std.proofs.lemmas.Bool.{and_parts, cases_Bool}
use Rattle.std.proofs.lemmas.List.Sorted.{All-permutation, length_permutation, list_any-IsPermutation}
use Rattle.std.proofs.lemmas.Option.{none-some}
use Rattle.sqlite_value.specs.Order.{Row}
use Rattle.sqlite_value.specs.declared.value.Value.TheVariants.{Int, Text}
use Rattle.sqlite_sql.specs.Term.{Env, holds}
use Rattle.sqlite.specs.Program.{overlay}
use Rattle.sqlite.specs.Query.{IsAnswer, Output, output, page}
use Rattle.sqlite.specs.State.{Shown, State}
use Rattle.sqlite.proofs.Callers.{one_permutation, reads_as}
use Rattle.service_keepers.specs.Tables.{TestRow, VisitRow, day_of_test, have_distinct_numbers, last_day_of, last_of_days, later_day, tests_point, visit_numbered}
use Rattle.register_sqlite.specs.Asked.{HasNumber}
use Rattle.register_sqlite.specs.Days.{day_shown}
use Rattle.register_sqlite.specs.Values.{IsTestRow}
use Rattle.register_sqlite.specs.Schema.{register_schema}
use Rattle.register_sqlite.specs.Stored.{IsRegister, stored_test, stored_tests, stored_visit, tables_in}
use Rattle.register_sqlite.specs.Texts.{select_tests_text, select_visit_text}
use Rattle.register_sqlite.proofs.Compared.{equal_numbers, equal_texts}
use Rattle.register_sqlite.proofs.Understood.{select_tests_command, select_tests_plain, select_tests_unlisted, tests_query}
use Rattle.register_sqlite.proofs.Understood.{select_visit_command, select_visit_plain, select_visit_unlisted, visit_query}

and_true : (b : Bool) → (b && true) ≡ b
and_true true = refl
and_true false = refl

-- ---- the visit of a number

abbrev visit_env : Row → VisitRow → Env
visit_env params visit = params ∷ stored_visit visit ∷ []

matching_visits : (number : ℕ) (visits : List VisitRow) → let params = Int (pos number) ∷ [] in
    flat_map (λ (r : Row). if list_all (holds (params ∷ r ∷ [])) visit_query.filter then (params ∷ r ∷ []) ∷ [] else []) (map stored_visit visits)
    ≡ map (visit_env params) (filter (λ (v : VisitRow). v.number == number) visits)
matching_visits number [] = refl
matching_visits number (visit ∷ rest) =
    let params = Int (pos number) ∷ [] in
    let test : list_all (holds (params ∷ stored_visit visit ∷ [])) visit_query.filter ≡ (visit.number == number) = and_true _ ∙ equal_numbers visit.number number in
    let more = matching_visits number rest in
    elim (cases_Bool (visit.number == number)) [
      | inl hit ↦ rw (test, hit) (ap (λ envs. visit_env params visit ∷ envs) more)
      | inr missed ↦ rw (test, missed) more
    ]

none_left : (number : ℕ) (visits : List VisitRow) → visit_numbered number visits ≡ None → filter (λ (v : VisitRow). v.number == number) visits ≡ []
none_left number [] none = refl
none_left number (visit ∷ rest) none = elim (cases_Bool (visit.number == number)) [
  | inl hit ↦ absurd (none-some visit (sym (rw hit at none)))
  | inr missed ↦ rw missed (none_left number rest (rw missed at none))
]

none_is : {X : Type 0} (o : Option X) → is_none o ≡ true → o ≡ None
none_is None is = refl
none_is (Some x) is = cc

one_left : (number : ℕ) (visits : List VisitRow) → have_distinct_numbers visits ≡ true
    → filter (λ (v : VisitRow). v.number == number) visits ≡ option_to_list (visit_numbered number visits)
one_left number [] distinct = refl
one_left number (visit ∷ rest) distinct =
    let parts = and_parts (is_none (visit_numbered visit.number rest)) (have_distinct_numbers rest) distinct in
    elim (cases_Bool (visit.number == number)) [
      | inl hit ↦ rw hit (ap (λ xs. visit ∷ xs) (none_left number rest (subst (λ n. visit_numbered n rest ≡ None) (number_is hit) (none_is (visit_numbered visit.number rest) parts.0))))
      | inr missed ↦ rw missed (one_left number rest parts.1)
    ]
  where
    number_is : (visit.number == number) ≡ true → visit.number ≡ number
    number_is hit = Rattle.std.proofs.lemmas.Bool.eqb-true visit.number number hit

-- the row that is shown of a visit
abbrev pub shown_visit : VisitRow → Row
shown_visit visit = Int (pos visit.day) ∷ Text visit.engineer ∷ []

no_permutation : {X : Type 0} (ys : List X) → length ys ≡ 0 → ys ≡ []
no_permutation [] none = refl
no_permutation (y ∷ ys) none = absurd (omega (arith, none))

-- what stands in order where at most one stands at all
one_in_order : (o : Option VisitRow) (ordered : List Output) → IsPermutation (map (λ (v : VisitRow). ([], shown_visit v)) (option_to_list o)) ordered
    → map (λ (p : Output). p.1) ordered ≡ map shown_visit (option_to_list o)
one_in_order None ordered perm = ap (map (λ (p : Output). p.1)) (no_permutation ordered (length_permutation [] ordered perm))
one_in_order (Some visit) ordered perm = ap (map (λ (p : Output). p.1)) (one_permutation ([], shown_visit visit) ordered perm)

whole_page : (o : Option VisitRow) (params : Row) → page visit_query params (map shown_visit (option_to_list o)) ≡ map shown_visit (option_to_list o)
whole_page None params = refl
whole_page (Some visit) params = refl

module _ (old new : State) (register : IsRegister old) (rows : List Row) where
  pub visit_shown : (number : ℕ) → Shown select_visit_text (Int (pos number) ∷ []) old new rows
      → rows ≡ map shown_visit (option_to_list (visit_numbered number (tables_in old.now.trees).visits))
  visit_shown number h =
      let params = Int (pos number) ∷ [] in
      let visits = (tables_in old.now.trees).visits in
      let found = visit_numbered number visits in
      let reads = reads_as select_visit_text params old new register_schema register.schema _ select_visit_command select_visit_plain select_visit_unlisted rows h in
      let a : IsAnswer visit_query (overlay old.now.trees []) params rows = reads.answer Rattle.sqlite_value.specs.declared.value.Value.TheVariants.Null in
      let matched = ap (flat_map (λ (r : Row). if list_all (holds (params ∷ r ∷ [])) visit_query.filter then (params ∷ r ∷ []) ∷ [] else [])) register.visits
      ∙ matching_visits number visits ∙ ap (map (visit_env params)) (one_left number visits register.distinct.visits) in
      let kept = a.distinct ∙ ap (map (output visit_query)) (a.grouped ∙ matched) in
      let listed = kept ∙ outputs params found in
      let ordered = one_in_order found a.ordered (subst (λ k. IsPermutation k a.ordered) listed a.same) in
      a.shown ∙ ap (page visit_query params) ordered ∙ whole_page found params
    where
      outputs : (params : Row) (o : Option VisitRow) → map (output visit_query) (map (visit_env params) (option_to_list o)) ≡ map (λ (v : VisitRow). ([], shown_visit v)) (option_to_list o)
      outputs params None = refl
      outputs params (Some visit) = refl

-- ---- the tests of a point

abbrev test_output : TestRow → Output
test_output test = (Int (pos test.visit) ∷ [], Int (pos test.visit) ∷ [])

matching_tests : (point : List ℕ) (place : ℕ) (tests : List TestRow) → let params = Text point ∷ [] in
    map (output tests_query) (flat_map (λ (r : Row). if list_all (holds (params ∷ r ∷ [])) tests_query.filter then (params ∷ r ∷ []) ∷ [] else []) (stored_tests place tests))
    ≡ map test_output (filter (tests_point point) tests)
matching_tests point place [] = refl
matching_tests point place (test ∷ rest) =
    let params = Text point ∷ [] in
    let passes : list_all (holds (params ∷ stored_test place test ∷ [])) tests_query.filter ≡ tests_point point test = and_true _ ∙ equal_texts test.point point in
    let more = matching_tests point (place + 1) rest in
    elim (cases_Bool (tests_point point test)) [
      | inl hit ↦ rw (passes, hit) (ap (λ all. test_output test ∷ all) more)
      | inr missed ↦ rw (passes, missed) more
    ]

abbrev ShowsNumber : Output → Type 0
ShowsNumber p = HasNumber p.1

-- whether a day is reached
abbrev reaches : Option ℕ → ℕ → Bool
reaches None day = false
reaches (Some last) day = nat_lt day (last + 1)

same_reach : (a b : Option ℕ) → ((day : ℕ) → reaches a day ≡ reaches b day) → a ≡ b
same_reach None None same = refl
same_reach None (Some n) same = absurd (let at = same n in grind arith)
same_reach (Some m) None same = absurd (let at = same m in grind arith)
same_reach (Some m) (Some n) same = ap Some (let at = same m in let other = same n in grind arith)

later_reaches : (last : Option ℕ) (day at : ℕ) → reaches (later_day last day) at ≡ (reaches last at || reaches (Some day) at)
later_reaches None day at = refl
later_reaches (Some last) day at = grind arith

or_parted : (a b c : Bool) → ((a || b) || c) ≡ (a || (b || c))
or_parted true b c = refl
or_parted false b c = refl

days_reach : (days : List ℕ) (last : Option ℕ) (at : ℕ) → reaches (fold later_day last days) at ≡ (reaches last at || list_any (λ day. reaches (Some day) at) days)
days_reach [] last at = or_false (reaches last at)
  where
    or_false : (b : Bool) → b ≡ (b || false)
    or_false true = refl
    or_false false = refl
days_reach (day ∷ days) last at =
    days_reach days (later_day last day) at ∙ ap (λ b. b || list_any (λ day. reaches (Some day) at) days) (later_reaches last day at)
    ∙ or_parted (reaches last at) (reaches (Some day) at) (list_any (λ day. reaches (Some day) at) days)

any_with : {X : Type 0} (h : X → Option ℕ) (at : ℕ) (x : X) (xs : List X) (o : Option ℕ) → h x ≡ o
    → list_any (λ day. reaches (Some day) at) (filter_map h xs) ≡ list_any (λ x. reaches (h x) at) xs
    → list_any (λ day. reaches (Some day) at) (filter_map h (x ∷ xs)) ≡ list_any (λ x. reaches (h x) at) (x ∷ xs)
any_with h at x xs None is more = rw is more
any_with h at x xs (Some day) is more = rw is (ap (λ b. reaches (Some day) at || b) more)

any_of_some : {X : Type 0} (h : X → Option ℕ) (at : ℕ) (xs : List X) → list_any (λ day. reaches (Some day) at) (filter_map h xs) ≡ list_any (λ x. reaches (h x) at) xs
any_of_some h at [] = refl
any_of_some h at (x ∷ xs) = any_with h at x xs (h x) refl (any_of_some h at xs)

any_of_map : {X Y : Type 0} (p : Y → Bool) (f : X → Y) (xs : List X) → list_any p (map f xs) ≡ list_any (λ x. p (f x)) xs
any_of_map p f [] = refl
any_of_map p f (x ∷ xs) = ap (λ b. p (f x) || b) (any_of_map p f xs)

module _ (old new : State) (register : IsRegister old) (rows : List Row) where
  -- the answer is of the point's tests, in some order
  tests_read : (point : List ℕ) → Shown select_tests_text (Text point ∷ []) old new rows
      → (a : IsAnswer tests_query (overlay old.now.trees []) (Text point ∷ []) rows)
      × IsPermutation (map test_output (filter (tests_point point) (tables_in old.now.trees).tests)) a.ordered
  tests_read point h =
      let params = Text point ∷ [] in
      let tests = (tables_in old.now.trees).tests in
      let reads = reads_as select_tests_text params old new register_schema register.schema _ select_tests_command select_tests_plain select_tests_unlisted rows h in
      let a : IsAnswer tests_query (overlay old.now.trees []) params rows = reads.answer Rattle.sqlite_value.specs.declared.value.Value.TheVariants.Null in
      let matched = ap (λ all. map (output tests_query) (flat_map (λ (r : Row). if list_all (holds (params ∷ r ∷ [])) tests_query.filter then (params ∷ r ∷ []) ∷ [] else []) all)) register.tests
      ∙ matching_tests point 1 tests in
      let kept = a.distinct ∙ ap (map (output tests_query)) a.grouped ∙ matched in
      (a, subst (λ k. IsPermutation k a.ordered) kept a.same)

  pub last_day_shown : (point : List ℕ) → Shown select_tests_text (Text point ∷ []) old new rows
      → last_of_days (filter_map (day_shown (tables_in old.now.trees).visits) rows) ≡ last_day_of point (tables_in old.now.trees)
  last_day_shown point h =
      let visits = (tables_in old.now.trees).visits in
      let tests = (tables_in old.now.trees).tests in
      let read = tests_read point h in
      let a = read.0 in
      let perm = read.1 in
      let row_days = day_shown visits in
      same_reach _ _ (λ at.
      let q : Row → Bool = λ row. reaches (row_days row) at in
      days_reach (filter_map row_days rows) None at ∙ any_of_some row_days at rows ∙ ap (list_any q) a.shown ∙ any_of_map q (λ (p : Output). p.1) a.ordered
      ∙ sym (list_any-IsPermutation (λ (p : Output). q p.1) (map test_output (filter (tests_point point) tests)) a.ordered perm)
      ∙ any_of_map (λ (p : Output). q p.1) test_output (filter (tests_point point) tests)
      ∙ sym (any_of_some (day_of_test visits) at (filter (tests_point point) tests))
      ∙ sym (days_reach (filter_map (day_of_test visits) (filter (tests_point point) tests)) None at))

  -- each of the rows has the number of a visit
  pub tests_numbered : (point : List ℕ) → Shown select_tests_text (Text point ∷ []) old new rows → All HasNumber rows
  tests_numbered point h =
      let tests = (tables_in old.now.trees).tests in
      let read = tests_read point h in
      let a = read.0 in
      let perm = read.1 in
      let of_test : All IsTestRow (filter (tests_point point) tests) = All-filter (tests_point point) IsTestRow tests (All-from_recursion IsTestRow tests register.of_tests) in
      let given : All ShowsNumber (map test_output (filter (tests_point point) tests)) =
      All-map ShowsNumber test_output (filter (tests_point point) tests) (λ k d low. ((slice_index_or (filter (tests_point point) tests) k d).visit, (refl, (of_test k d low).visit))) in
      let ordered : All ShowsNumber a.ordered = All-permutation ShowsNumber (map test_output (filter (tests_point point) tests)) a.ordered perm given in
      subst (All HasNumber) (sym a.shown) (All-map HasNumber (λ (p : Output). p.1) a.ordered ordered)

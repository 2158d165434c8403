-- What the calls of a keeper make of a register, and answer.
use Rattle.std.proofs.Common.{◌≡◌, inl, inr, ℕ, ◌+◌, ◌<◌, ◌≤◌, drop, get_or, length, List, [], ◌∷◌, map, Some, None, Ok, Err, Option, refl, sym, ap, subst, ◌∙◌, slice_get}
use Rattle.std.specs.Prelude.{◌==◌, All, option_map}
use Rattle.std.specs.List.{AllByRecursion, filter_map, fold}
use Rattle.std.specs.Option.{option_to_list}
use Rattle.std.proofs.lemmas.Bool.{cases_Bool, eqb-true}
use Rattle.std.proofs.lemmas.List.{drop_all, drop_more}
use Rattle.std.proofs.lemmas.Option.{none-some, same_Some}
use Rattle.sqlite_value.specs.Order.{Row, bytes, column}
use Rattle.sqlite.specs.Effect.{Database}
use Rattle.sqlite.specs.State.{Executes, FailsToQuery, Shown, State}
use Rattle.sqlite.specs.declared.error.Error.{Error}
use Rattle.service_keepers.specs.Keeping.{PutsTest, PutsVisit}
use Rattle.service_keepers.specs.Rows.{visit_row}
use Rattle.service_keepers.specs.Tables.{Tables, TestRow, VisitRow, last_day_of, later_day, visit_numbered}
use Rattle.register_sqlite.specs.declared.trouble.Trouble.{Trouble}
use Rattle.service_keepers.specs.declared.visit.Visit.{Visit}
use Rattle.register_sqlite.specs.Days.{day_shown, later_or}
use Rattle.register_sqlite.specs.Stored.{AnswersOf, Changes, IsRegister, KeepsRegister, number_in, tables_in}
use Rattle.register_sqlite.specs.Texts.{insert_test_text, insert_visit_text, number_params, point_params, select_tests_text, select_visit_text, test_params, visit_params}
use Rattle.register_sqlite.specs.Values.{IsTestRow, IsVisitRow, IsVisitLabel, IsVisitNumber}
use Rattle.register_sqlite.specs.Asked.{HasNumber}
use Rattle.register_sqlite.specs.Faults.{IsWantOfMemory, RefusesTest}
use Rattle.register_sqlite.proofs.Queried.{last_day_shown, shown_visit, tests_numbered, visit_shown}
use Rattle.register_sqlite.proofs.Wanting.{IsSteadily}
use Rattle.register_sqlite.proofs.Registered.{test_registered, visit_registered}
use Rattle.register_sqlite.proofs.States.{execute_fails, query_fails, read}
use Rattle.register_sqlite.proofs.Understood.{select_tests_plain, select_visit_plain}

pub stays_then : (a b c : State) → KeepsRegister a b → KeepsRegister b c → KeepsRegister a c
stays_then a b c p q = record { register = q.register; same = q.same ∙ p.same; was_open = p.was_open }

-- ---- the visit of a number

numbered : (number : ℕ) (visits : List VisitRow) (kept : VisitRow) → visit_numbered number visits ≡ Some kept → kept.number ≡ number
numbered number [] kept found = absurd (none-some kept found)
numbered number (visit ∷ rest) kept found = elim (cases_Bool (visit.number == number)) [
  | inl hit ↦ ap (λ v. v.number) (sym (same_Some visit kept (rw hit at found))) ∙ eqb-true visit.number number hit
  | inr missed ↦ numbered number rest kept (rw missed at found)
]

read_visit : (found : Option VisitRow) (rows : List Row) (row : Row) (visit : Visit) → rows ≡ map shown_visit (option_to_list found) → Some row ≡ slice_get rows 0
    → ((kept : VisitRow) → found ≡ Some kept → kept.number ≡ visit.number) → IsVisitNumber (column row 0) visit.day → IsVisitLabel (column row 1) visit.engineer.bytes
    → Some (visit_row visit) ≡ found
read_visit None rows row visit are first number day engineer = absurd (none-some row (sym (first ∙ ap (λ xs. slice_get xs 0) are)))
read_visit (Some kept) rows row visit are first number day engineer =
    let is : row ≡ shown_visit kept = same_Some row (shown_visit kept) (first ∙ ap (λ xs. slice_get xs 0) are) in
    let same_day : kept.day ≡ visit.day = ap number_in (sym (ap (λ r. column r 0) is) ∙ day.0) in
    let same_engineer : kept.engineer ≡ visit.engineer.bytes = ap bytes (sym (ap (λ r. column r 1) is) ∙ engineer.0) in
    let same_number : kept.number ≡ visit.number = number kept refl in
    sym (
    ap (λ n. Some (record { number = n; day = kept.day; engineer = kept.engineer })) same_number
    ∙ ap (λ d. Some (record { number = visit.number; day = d; engineer = kept.engineer })) same_day
    ∙ ap (λ e. Some (record { number = visit.number; day = visit.day; engineer = e })) same_engineer
    )

no_visit : (found : Option VisitRow) (rows : List Row) → rows ≡ map shown_visit (option_to_list found) → None ≡ slice_get rows 0 → None ≡ found
no_visit None rows are none = refl
no_visit (Some kept) rows are none = absurd (none-some (shown_visit kept) (none ∙ ap (λ xs. slice_get xs 0) are))

visit_fits : (number : ℕ) (visits : List VisitRow) (kept : VisitRow) → AllByRecursion IsVisitRow visits → visit_numbered number visits ≡ Some kept → IsVisitRow kept
visit_fits number [] kept all found = absurd (none-some kept found)
visit_fits number (visit ∷ rest) kept all found = elim (cases_Bool (visit.number == number)) [
  | inl hit ↦ subst IsVisitRow (same_Some visit kept (rw hit at found)) all.0
  | inr missed ↦ visit_fits number rest kept all.1 (rw missed at found)
]

holds_visit : (found : Option VisitRow) (rows : List Row) (row : Row) → rows ≡ map shown_visit (option_to_list found) → Some row ≡ slice_get rows 0
    → ((kept : VisitRow) → found ≡ Some kept → IsVisitRow kept) → ((day : ℕ) (engineer : List ℕ) → IsVisitNumber (column row 0) day → ¬ IsVisitLabel (column row 1) engineer) → ⊥
holds_visit None rows row are first fits none = none-some row (sym (first ∙ ap (λ xs. slice_get xs 0) are))
holds_visit (Some kept) rows row are first fits none =
    let is : row ≡ shown_visit kept = same_Some row (shown_visit kept) (first ∙ ap (λ xs. slice_get xs 0) are) in
    let holds = fits kept refl in
    none kept.day kept.engineer (ap (λ r. column r 0) is, holds.day) (ap (λ r. column r 1) is, holds.text, holds.short)

module _ (old new : State) (it : IsSteadily old new) (register : IsRegister old) where
  pub visit_changes : (visit : VisitRow) → IsVisitRow visit → (count : ℕ) → Executes insert_visit_text (visit_params visit) old new (Ok count)
      → Changes (PutsVisit visit) (λ kept. IsWantOfMemory) old new (Ok tt)
  visit_changes visit fits count h = let put = visit_registered old new register it.limit count visit fits h in record { register = put.0; ok = put.1; err = tt; refused = tt }

  pub test_changes : (test : TestRow) → IsTestRow test → (count : ℕ) → Executes insert_test_text (test_params test) old new (Ok count)
      → Changes (PutsTest test) (λ kept. RefusesTest kept.tests) old new (Ok tt)
  test_changes test fits count h = let put = test_registered old new register it.limit count test fits h in record { register = put.0; ok = put.1; err = tt; refused = tt }

  pub put_fails : (step : Tables → Tables → Type 0) (Refuses : Tables → Trouble → Type 0) (sql : List ℕ) (params : Row) (e : Error) (fault : Trouble)
      → Executes sql params old new (Err e) → Refuses (tables_in old.now.trees) fault → Changes step Refuses old new (Err fault)
  put_fails step Refuses sql params e fault h why =
      let stays = execute_fails old new register it.opened it.limit sql params e h in
      record { register = stays.register; ok = tt; err = ap (λ (d : Database). tables_in d.trees) stays.same; refused = why }

  pub ask_fails : {T : Type 0} (IsSo : T → Tables → Type 0) (sql : List ℕ) (params : Row) (e : Error) (fault : Trouble) → FailsToQuery sql params old new e
      → IsWantOfMemory fault → AnswersOf IsSo old new (Err fault)
  ask_fails IsSo sql params e fault h want = record { stays = query_fails old new register it.opened it.limit sql params e h; so = tt; refused = want }

  module _ (number : ℕ) (rows : List Row) (h : Shown select_visit_text (number_params number) old new rows) where
    abbrev IsVisit : Option Visit → Tables → Type 0
    IsVisit visit kept = option_map visit_row visit ≡ visit_numbered number kept.visits

    stay : KeepsRegister old new
    stay = read old new register it.opened it.limit select_visit_text (number_params number) select_visit_plain rows h

    pub visit_answered : (row : Row) (visit : Visit) → Some row ≡ slice_get rows 0 → visit.number ≡ number → IsVisitNumber (column row 0) visit.day
        → IsVisitLabel (column row 1) visit.engineer.bytes → AnswersOf IsVisit old new (Ok (Some visit))
    visit_answered row visit first same day engineer = record {
      stays = stay;
      so = read_visit _ rows row visit (visit_shown old new register rows number h) first (λ kept found. numbered number _ kept found ∙ sym same) day engineer;
      refused = tt;
    }

    pub none_answered : None ≡ slice_get rows 0 → AnswersOf IsVisit old new (Ok None)
    none_answered none = record { stays = stay; so = no_visit _ rows (visit_shown old new register rows number h) none; refused = tt }

    -- each row that is shown has what a visit holds
    pub row_answered : (row : Row) → Some row ≡ slice_get rows 0 → ((day : ℕ) (engineer : List ℕ) → IsVisitNumber (column row 0) day → ¬ IsVisitLabel (column row 1) engineer) → ⊥
    row_answered row first none =
        holds_visit _ rows row (visit_shown old new register rows number h) first (λ kept found. visit_fits number _ kept register.of_visits found) none

-- ---- the last day of a point

pub refused_too : {T U : Type 0} (IsThis : T → Tables → Type 0) (IsThat : U → Tables → Type 0) (old new : State) (fault : Trouble)
    → AnswersOf IsThis old new (Err fault) → AnswersOf IsThat old new (Err fault)
refused_too IsThis IsThat old new fault h = record { stays = h.stays; so = tt; refused = h.refused }

pub day_answered : (old new : State) (number : ℕ) (row : Row) (found : Option Visit) → IsVisitNumber (column row 0) number
    → AnswersOf (λ (visit : Option Visit) kept. option_map visit_row visit ≡ visit_numbered number kept.visits) old new (Ok found)
    → AnswersOf (λ (day : Option ℕ) kept. day ≡ day_shown kept.visits row) old new (Ok (option_map (λ (v : Visit). v.day) found))
day_answered old new number row found is h =
    let visits = (tables_in old.now.trees).visits in
    record {
      stays = h.stays;
      so = sym (ap (λ n. option_map (λ (v : VisitRow). v.day) (visit_numbered n visits)) (ap number_in is.0) ∙ ap (option_map (λ (v : VisitRow). v.day)) (sym h.so) ∙ row_day found);
      refused = tt;
    }
  where
    row_day : (found : Option Visit) → option_map (λ (v : VisitRow). v.day) (option_map visit_row found) ≡ option_map (λ (v : Visit). v.day) found
    row_day None = refl
    row_day (Some visit) = refl

last_step : (visits : List VisitRow) (row : Row) (rest : List Row) (last day : Option ℕ) → day ≡ day_shown visits row
    → fold later_day (later_or last day) (filter_map (day_shown visits) rest) ≡ fold later_day last (filter_map (day_shown visits) (row ∷ rest))
last_step visits row rest last None is = rw (sym is) refl
last_step visits row rest last (Some day) is = rw (sym is) refl

pub day_stepped : (visits : List VisitRow) (items : List Row) (at : ℕ) (row : Row) (last day next : Option ℕ) → at < length items → row ≡ get_or items at row
    → day ≡ day_shown visits row → next ≡ later_or last day
    → fold later_day next (filter_map (day_shown visits) (drop (at + 1) items)) ≡ fold later_day last (filter_map (day_shown visits) (drop at items))
day_stepped visits items at row last day next low is shown later =
    ap (λ l. fold later_day l (filter_map (day_shown visits) (drop (at + 1) items))) later ∙ last_step visits row (drop (at + 1) items) last day shown
    ∙ ap (λ rows. fold later_day last (filter_map (day_shown visits) rows)) (sym (drop_more items at row low ∙ ap (λ r. r ∷ drop (at + 1) items) (sym is)))

module _ (old mid new : State) (register : IsRegister old) (it : IsSteadily old mid) (point : List ℕ) (rows : List Row)
    (h : Shown select_tests_text (point_params point) old mid rows) where
  abbrev IsLast : Option ℕ → Tables → Type 0
  IsLast day kept = day ≡ last_day_of point kept

  pub tests_stay : KeepsRegister old mid
  tests_stay = read old mid register it.opened it.limit select_tests_text (point_params point) select_tests_plain rows h

  pub last_refused : (fault : Trouble) → KeepsRegister mid new → IsWantOfMemory fault → AnswersOf IsLast old new (Err fault)
  last_refused fault stays want = record { stays = stays_then old mid new tests_stay stays; so = tt; refused = want }

  pub rows_numbered : All HasNumber rows
  rows_numbered = tests_numbered old mid register rows point h

  pub last_answered : (items : List Row) (at : ℕ) (last : Option ℕ) → items ≡ rows → length items ≤ at → KeepsRegister mid new
      → fold later_day last (filter_map (day_shown (tables_in mid.now.trees).visits) (drop at items))
      ≡ fold later_day None (filter_map (day_shown (tables_in mid.now.trees).visits) items)
      → AnswersOf IsLast old new (Ok last)
  last_answered items at last are end stays all =
      let visits = ap (λ (d : Database). (tables_in d.trees).visits) tests_stay.same in
      let done = ap (λ rest. fold later_day last (filter_map (day_shown (tables_in mid.now.trees).visits) rest)) (drop_all at items end) in
      record {
        stays = stays_then old mid new tests_stay stays;
        so = sym done ∙ all ∙ ap (λ v. fold later_day None (filter_map (day_shown v) items)) visits
            ∙ ap (λ r. fold later_day None (filter_map (day_shown (tables_in old.now.trees).visits) r)) are ∙ last_day_shown old mid register rows point h;
        refused = tt;
      }

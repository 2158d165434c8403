-- The answers of a tick: they rise by number, at most 64 are told by number, and only panels of the site are busy.
use Rattle.std.proofs.Common.{◌≡◌, ℕ, zero, suc, ◌+◌, ◌-◌, ◌^◌, ◌≤◌, ◌<◌, ◌==◌, ◌&&◌, inl, inr, not, Bool, true}
use Rattle.std.proofs.Common.{false, List, [], ◌∷◌, length, get_or, map, Option, Some, None, slice_get, if◌then◌else◌}
use Rattle.std.proofs.Common.{refl, sym, ◌∙◌, ap, subst, arith, length-append}
use Rattle.std.specs.Prelude.{filter, nat_le, nat_lt, option_map, slice_index}
use Rattle.std.specs.List.{cons_option, filter_map, find, range_with_len}
use Rattle.std.proofs.lemmas.Bool.Decides.{eqb_tells, leb_tells}
use Rattle.std.proofs.lemmas.List.FromFn.{get_or-map-range_with_len, length-map-range_with_len}
use Rattle.site_types.specs.declared.event.Event.TheVariants.{Op, Point, Cable, Supply, Link, Confirmed}
use Rattle.site_types.specs.declared.retained.Retained.{Retained}
use Rattle.site_types.specs.declared.site.Site.{Site}
use Rattle.access_levels.specs.Levels.{level_of}
use Rattle.face_text.specs.declared.op_answer.OpAnswer.{OpAnswer}
use Rattle.face_text.specs.Timelines.{AreAnswers, AreOpAnswers, HasAnswer, IsReply}
use Rattle.panel_rules.specs.Moments.{Moment, Began, Happened, Turned, Kept, IsPanel, tick_of}
use Rattle.panel_rules.specs.Operations.{Request, Answered, request_of, requests, operations}
use Rattle.panel_rules.specs.Timeline.{answer_in, answers_now, busy_count, failed_now, has_answer, is_busy, step_of, told_answer}
use Rattle.panel_laws.specs.FormLaws.{AnswersRise, CanBeTold}
use Rattle.panel_laws.proofs.AnswerLaws.{answers_are_to, eq_is, same_request}
use Rattle.panel_rules.proofs.Answering.{numbered_by_place}
use Rattle.panel_laws.proofs.AnswersFit.{IsFit, IsGiven, answers_fit, is_told_or_busy}
use Rattle.panel_rules.proofs.Bools.{both, either, either_left, either_right, parts}
use Rattle.panel_rules.proofs.Counting.{count-none, count-some, each_at, each_by}
use Rattle.panel_laws.proofs.FewAnswers.{can_be_told, few_asked, is_early_up_to, length_filter, told_few}
use Rattle.panel_rules.proofs.Floors.{le_to, lt_to}
use Rattle.panel_rules.proofs.Places.{found_from}
use Rattle.panel_rules.proofs.AnswersTell.{eq_true}

-- ---- an answer that is found

record IsGot {X : Type 0} (test : X → Bool) (xs : List X) (x : X) : Type 0 where
  place : ℕ
  is : slice_get xs place ≡ Some x
  passes : test x ≡ true

find_got : {X : Type 0} (test : X → Bool) (xs : List X) (x : X) → find test xs ≡ Some x → IsGot test xs x
find_got test [] x h = cc
find_got {X = X} test (y ∷ xs) x h = go (test y) refl h (find_got test xs x)
  where
    go : (b : Bool) → test y ≡ b → (if b then Some y else find test xs) ≡ Some x → (find test xs ≡ Some x → IsGot test xs x) → IsGot test (y ∷ xs) x
    go true e h ih = let same : x ≡ y = cc in record { place = 0; is = h; passes = ap test same ∙ e }
    go false e h ih = let g = ih h in record { place = suc g.place; is = g.is; passes = g.passes }

-- the answer found for an operation is to its number, and of the tick
pub record IsFound (answers : List Answered) (tick : ℕ) (r : Request) (a : Answered) : Type 0 where
  pub place : ℕ
  pub is : slice_get answers place ≡ Some a
  pub number : a.request.number ≡ r.number
  pub tick_is : a.tick ≡ tick

pub found : (site : Site) (kept : Retained) (answers : List Answered) (tick : ℕ) (r : Request) (a : Answered)
    → answer_in site kept tick answers r ≡ Some a → IsFound answers tick r a
found site kept answers tick r a h =
    let g = find_got (λ (x : Answered). (x.request.number == r.number) && (x.tick == tick)) answers a h in
    let p = parts (a.request.number == r.number) (a.tick == tick) g.passes in
    record { place = g.place; is = g.is; number = eq_is a.request.number r.number p.0; tick_is = eq_is a.tick tick p.1 }

-- ---- numbers rise

some_same : {X : Type 0} (x y : X) → Some x ≡ Some y → x ≡ y
some_same x y e = cc

shifted : (most past n : ℕ) → past + suc n < most → past + 1 + n < most
shifted most past n l = omega (arith, l)

number_small : (most past n number : ℕ) → number ≡ past + 0 + 1 → past + suc n < most → number < most
number_small most past n number e l = omega (arith, e, l)

module _ (look : Request → Option Answered) (sound : (r : Request) (a : Answered) → look r ≡ Some a → (a.request.number ≡ r.number) × IsGiven a.reply)
  where
    abbrev told_of : List Request → List OpAnswer
    told_of asked = filter_map told_answer (filter_map look asked)

    rising : (asked : List Request) (past bound : ℕ) → ((k : ℕ) (r : Request) → slice_get asked k ≡ Some r → r.number ≡ past + k + 1)
        → past + length asked < 2 ^ 64 → bound ≤ past + 1 → AreOpAnswers bound (told_of asked)
    rising [] past bound numbered few low = tt
    rising (r ∷ asked) past bound numbered few low =
        go (look r) refl
        (λ next l. rising asked (past + 1) next (λ k x e. (let m = numbered (suc k) x e in omega (arith, m))) (shifted (2 ^ 64) past (length asked) few)
        l)
      where
        by : (a : Answered) → look r ≡ Some a → ((next : ℕ) → next ≤ past + 1 + 1 → AreOpAnswers next (told_of asked)) → (o : Option OpAnswer)
            → told_answer a ≡ o → AreOpAnswers bound (cons_option o (told_of asked))
        by a e ih None t = ih bound (omega (arith, low))
        by a e ih (Some op) t =
            elim (is_told_or_busy a) [
              | inl h ↦ (let x : None ≡ Some op = sym h.0 ∙ t in absurd cc)
              | inr h ↦
                  (let s = sound r a e in
                  let same = some_same h.op op (sym h.is ∙ t) in
                  let number : op.number ≡ past + 0 + 1 = ap (λ (x : OpAnswer). x.number) (sym same) ∙ h.number ∙ s.0 ∙ numbered 0 r refl in (
                    omega (arith, low, number),
                    number_small (2 ^ 64) past (length asked) op.number number few,
                    subst (λ (x : OpAnswer). IsReply x.reply) same (h.given s.1),
                    ih (suc op.number) (omega (arith, number)),
                  ))
            ]

        go : (o : Option Answered) → look r ≡ o → ((next : ℕ) → next ≤ past + 1 + 1 → AreOpAnswers next (told_of asked))
            → AreOpAnswers bound (filter_map told_answer (cons_option o (filter_map look asked)))
        go None e ih = ih bound (omega (arith, low))
        go (Some a) e ih = by a e ih (told_answer a) refl

-- ---- lists are short

filtered_short : {X : Type 0} (test : X → Bool) (xs : List X) → length (filter test xs) ≤ length xs
filtered_short test [] = omega arith
filtered_short test (x ∷ xs) = go (test x) (filtered_short test xs)
  where
    go : (b : Bool) → length (filter test xs) ≤ length xs → length (if b then x ∷ filter test xs else filter test xs) ≤ suc (length xs)
    go true ih = omega (arith, ih)
    go false ih = omega (arith, ih)

mapped_short : {X Y : Type 0} (f : X → Option Y) (xs : List X) → length (filter_map f xs) ≤ length xs
mapped_short f [] = omega arith
mapped_short {Y = Y} f (x ∷ xs) = go (f x) (mapped_short f xs)
  where
    go : (o : Option Y) → length (filter_map f xs) ≤ length xs → length (cons_option o (filter_map f xs)) ≤ suc (length xs)
    go None ih = omega (arith, ih)
    go (Some y) ih = omega (arith, ih)

requests_short : (site : Site) (moments : List Moment) → length (requests site moments) ≤ length moments
requests_short site [] = omega arith
requests_short site (Began ∷ before) = let ih = requests_short site before in omega (arith, ih)
requests_short site (Happened (Op panel code operation) ∷ before) =
    let ih = requests_short site before in
    let more =
    length-append (requests site before) (request_of (tick_of before) panel (level_of site (option_map (λ label. label.bytes) code)) operation
    (requests site before) ∷ []) in
    omega (arith, ih, more)
requests_short site (Happened (Point point state) ∷ before) = let ih = requests_short site before in omega (arith, ih)
requests_short site (Happened (Cable panel line piece state) ∷ before) = let ih = requests_short site before in omega (arith, ih)
requests_short site (Happened (Supply panel kind bad) ∷ before) = let ih = requests_short site before in omega (arith, ih)
requests_short site (Happened (Link link up) ∷ before) = let ih = requests_short site before in omega (arith, ih)
requests_short site (Happened (Confirmed output) ∷ before) = let ih = requests_short site before in omega (arith, ih)
requests_short site (Turned panel task ∷ before) = let ih = requests_short site before in omega (arith, ih)
requests_short site (Kept failed ∷ before) = let ih = requests_short site before in omega (arith, ih)

past_end : (xs : List ℕ) (k : ℕ) → length xs ≤ k → get_or xs k 0 ≡ 0
past_end [] k l = refl
past_end (x ∷ xs) zero l = absurd (omega (arith, l))
past_end (x ∷ xs) (suc k) l = past_end xs k (omega (arith, l))

small : (most value n l : ℕ) → value ≡ n → n ≤ l → l < most → value < most
small most value n l e k h = omega (arith, e, k, h)

-- ---- those that can be told

early_in : (tick : ℕ) (r : Request) → 1 ≤ r.panel → r.panel ≤ 8 → r.earlier < 4 → r.tick ≡ tick → is_early_up_to 8 tick r ≡ true
early_in tick r one eight early same =
    both (nat_le 1 r.panel && nat_le r.panel 8) ((r.tick == tick) && nat_lt r.earlier 4)
    (both (nat_le 1 r.panel) (nat_le r.panel 8) (le_to 1 r.panel one) (le_to r.panel 8 eight))
    (both (r.tick == tick) (nat_lt r.earlier 4) (eq_true r.tick tick same) (lt_to r.earlier 4 early))

pub told_in_time : (tick : ℕ) (r : Request) → 1 ≤ r.panel → r.panel ≤ 8 → r.earlier < 4 → r.tick ≤ tick → tick ≤ r.tick + 1 → can_be_told tick r ≡ true
told_in_time tick r one eight early low high =
    elim (eqb_tells r.tick tick) [
      | inl h ↦ either_left (is_early_up_to 8 tick r) (is_early_up_to 8 (tick - 1) r) (early_in tick r one eight early h.1)
      | inr h ↦
          (let apart =
          h.1 in
          either_right (is_early_up_to 8 tick r) (is_early_up_to 8 (tick - 1) r)
          (early_in (tick - 1) r one eight early (omega (arith, low, high, apart))))
    ]

-- ---- the answers of a run's last tick

module _ (site : Site) (kept : Retained) (moments : List Moment) (can : CanBeTold site kept moments) where
  abbrev all_answers : List Answered
  all_answers = (operations site kept moments).answers

  fit_at : (r : Request) (a : Answered) → answer_in site kept (tick_of moments) all_answers r ≡ Some a → IsFit a
  fit_at r a e = let f = found site kept all_answers (tick_of moments) r a e in
      each_at IsFit all_answers f.place a (answers_fit site kept moments).answers f.is

  request_is : (k : ℕ) (r : Request) (a : Answered) → slice_get (requests site moments) k ≡ Some r
      → answer_in site kept (tick_of moments) all_answers r ≡ Some a → a.request ≡ r
  request_is k r a is e =
      let f = found site kept all_answers (tick_of moments) r a e in
      let asked = answers_are_to site kept moments f.place a can.run f.is in
      same_request site moments asked.place k a.request r asked.asked is f.number

  ops_rise : AreOpAnswers 0 (filter_map told_answer (answers_now site kept moments))
  ops_rise =
      rising (answer_in site kept (tick_of moments) all_answers)
      (λ r a e. ((found site kept all_answers (tick_of moments) r a e).number, (fit_at r a e).given)) (requests site moments) 0 0
      (λ k r is. (let m = numbered_by_place site moments k r is in omega (arith, m)))
      (small (2 ^ 64) (0 + length (requests site moments)) (length (requests site moments)) (length moments) (omega arith)
      (requests_short site moments) can.few) (omega arith)

  panels_few : site.panels ≤ 8
  panels_few = can.valid.forms.panels.1

  passes : (k : ℕ) (r : Request) (a : Answered) → slice_get (requests site moments) k ≡ Some r
      → answer_in site kept (tick_of moments) all_answers r ≡ Some a → is_busy a.reply ≡ false → can_be_told (tick_of moments) r ≡ true
  passes k r a is e free =
      let f = found site kept all_answers (tick_of moments) r a e in
      let asked = answers_are_to site kept moments f.place a can.run f.is in
      let same = request_is k r a is e in
      let early = subst (λ (x : Request). x.earlier < 4) same ((fit_at r a e).early free) in
      let after = subst (λ (x : Request). x.tick ≤ a.tick) same asked.after in
      let soon = subst (λ (x : Request). a.tick ≤ x.tick + 1) same asked.soon in
      let at = f.tick_is in
      let own = (can.of_site k r is).0 in
      let few = panels_few in
      told_in_time (tick_of moments) r own.0 (omega (arith, own.1, few)) early (omega (arith, after, at)) (omega (arith, soon, at))

  ops_few : length (filter_map told_answer (answers_now site kept moments)) ≤ 64
  ops_few =
      let one = told_few (answer_in site kept (tick_of moments) all_answers) (can_be_told (tick_of moments)) (requests site moments) passes in
      let all = few_asked site moments (tick_of moments) in
      omega (arith, one, all)

  -- ---- busy panels

  given_panel : (k : ℕ) (a : Answered) → slice_get (answers_now site kept moments) k ≡ Some a → IsPanel site.panels a.request.panel
  given_panel k a h =
      let f = found_from (answer_in site kept (tick_of moments) all_answers) (requests site moments) k a h in
      subst (λ (x : Request). IsPanel site.panels x.panel) (sym (request_is f.place f.source a f.is f.gives)) (can.of_site f.place f.source f.is).0

  abbrev busy_of : ℕ → ℕ
  busy_of panel = busy_count panel (answers_now site kept moments)

  busy_at : (place : ℕ) → place < 8 → slice_index (map busy_of (range_with_len 1 8)) place ≡ busy_of (1 + place)
  busy_at place l = get_or-map-range_with_len busy_of 1 8 place (1 + place) 0 l refl

  busy_past : (place : ℕ) → 8 ≤ place → slice_index (map busy_of (range_with_len 1 8)) place ≡ 0
  busy_past place l = past_end (map busy_of (range_with_len 1 8)) place (let long = length-map-range_with_len busy_of 1 8 in omega (arith, long, l))

  busy_few : (panel : ℕ) → busy_of panel ≤ length moments
  busy_few panel =
      let one = filtered_short (λ (a : Answered). (a.request.panel == panel) && is_busy a.reply) (answers_now site kept moments) in
      let two = mapped_short (answer_in site kept (tick_of moments) all_answers) (requests site moments) in
      let three = requests_short site moments in
      omega (arith, one, two, three)

  counts_small : (place : ℕ) → slice_index (map busy_of (range_with_len 1 8)) place < 2 ^ 64
  counts_small place =
      elim (leb_tells 8 place) [
        | inl h ↦ small (2 ^ 64) (slice_index (map busy_of (range_with_len 1 8)) place) 0 (length moments) (busy_past place h.1) (omega arith) can.few
        | inr h ↦ small (2 ^ 64) (slice_index (map busy_of (range_with_len 1 8)) place) (busy_of (1 + place)) (length moments) (busy_at place h.1)
            (busy_few (1 + place)) can.few
      ]

  not_this : (panel place : ℕ) (b : Bool) → panel ≤ place → ((panel == 1 + place) && b) ≡ false
  not_this panel place b l =
      elim (eqb_tells panel (1 + place)) [
        | inl h ↦ (let e = h.1 in absurd (omega (arith, e, l)))
        | inr h ↦ ap (λ x. x && b) h.0
      ]

  none_busy : (place : ℕ) → site.panels ≤ place → busy_of (1 + place) ≡ 0
  none_busy place l =
      length_filter (λ (a : Answered). (a.request.panel == 1 + place) && is_busy a.reply) (answers_now site kept moments)
      ∙ count-none (λ (a : Answered). (a.request.panel == 1 + place) && is_busy a.reply) (answers_now site kept moments)
      (each_by (λ (a : Answered). ((a.request.panel == 1 + place) && is_busy a.reply) ≡ false) (answers_now site kept moments)
      (λ k a h. not_this a.request.panel place (is_busy a.reply) (let own = given_panel k a h in omega (arith, own.1, l))))

  no_other : (place : ℕ) → site.panels ≤ place → slice_index (map busy_of (range_with_len 1 8)) place ≡ 0
  no_other place l =
      elim (leb_tells 8 place) [
        | inl h ↦ busy_past place h.1
        | inr h ↦ busy_at place h.1 ∙ none_busy place l
      ]

  pub in_form : AreAnswers site (step_of site kept moments).answers
  in_form = record { ops = ops_rise; few = ops_few; panels = length-map-range_with_len busy_of 1 8; counts = counts_small; no_other = no_other }

  -- ---- an answer is told, or its panel was busy

  tells_first : (a : Answered) (rest : List Answered) → answers_now site kept moments ≡ a ∷ rest → HasAnswer (step_of site kept moments).answers
  tells_first a rest e =
      elim (is_told_or_busy a) [
        | inl h ↦ inr (inl (a.request.panel - 1, λ z. not_zero h.1 z))
        | inr h ↦ inl (λ z. not_none h.op h.is z)
      ]
    where
      here : slice_get (answers_now site kept moments) 0 ≡ Some a
      here = ap (λ xs. slice_get xs 0) e

      not_zero : is_busy a.reply ≡ true → slice_index (map busy_of (range_with_len 1 8)) (a.request.panel - 1) ≡ 0 → ⊥
      not_zero busy z =
          let own = given_panel 0 a here in
          let few = panels_few in
          let at =
          get_or-map-range_with_len busy_of 1 8 (a.request.panel - 1) a.request.panel 0 (omega (arith, own.0, own.1, few)) (omega (arith, own.0))
          in
          let long = length_filter (λ (x : Answered). (x.request.panel == a.request.panel) && is_busy x.reply) (answers_now site kept moments) in
          let some = count-some (λ (x : Answered). (x.request.panel == a.request.panel) && is_busy x.reply) (answers_now site kept moments) 0 a here
          (both (a.request.panel == a.request.panel) (is_busy a.reply) (eq_true a.request.panel a.request.panel refl) busy) in
          omega (arith, z, at, long, some)

      not_none : (op : OpAnswer) → told_answer a ≡ Some op → filter_map told_answer (answers_now site kept moments) ≡ [] → ⊥
      not_none op told_so z =
          let x : cons_option (Some op) (filter_map told_answer rest) ≡ [] =
          ap (λ o. cons_option o (filter_map told_answer rest)) (sym told_so) ∙ ap (filter_map told_answer) (sym e) ∙ z in
          cc

  pub tells : has_answer site kept moments ≡ true → HasAnswer (step_of site kept moments).answers
  tells h =
      elim (either (not (length (answers_now site kept moments) == 0)) (failed_now site kept moments) h) [
        | inl t ↦ some (answers_now site kept moments) refl t
        | inr t ↦ inr (inr t)
      ]
    where
      some : (xs : List Answered) → answers_now site kept moments ≡ xs → not (length xs == 0) ≡ true → HasAnswer (step_of site kept moments).answers
      some [] e t = absurd cc
      some (a ∷ rest) e t = tells_first a rest e

pub answers_rise : AnswersRise
answers_rise site kept moments can = in_form site kept moments can

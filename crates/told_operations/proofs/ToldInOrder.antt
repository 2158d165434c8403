-- What a text says was done, the oldest first and the newest first.
use Rattle.std.proofs.Common.{inl, inr, ◌≡◌, ◌∙◌, ◌+◌, ◌++◌, ◌==◌, ℕ, zero, suc, Bool, true, false, List, [], ◌∷◌, Option, Some, None, refl, sym, ap, arith}
use Rattle.std.proofs.Common.{map, reverse, append_assoc, append-nil, slice_get, option_map, if◌then◌else◌, ◌≢◌}
use Rattle.std.specs.List.{find, fold}
use Rattle.std.proofs.lemmas.Bool.Decides.{eqb_tells}
use Rattle.std.proofs.lemmas.List.{reverse-append}
use Rattle.std.proofs.lemmas.Option.{slice_get-map}
use Rattle.site_types.specs.declared.site.Site.{Site}
use Rattle.site_types.specs.Done.{Done}
use Rattle.face_text.specs.declared.op_answer.OpAnswer.{OpAnswer}
use Rattle.face_text.specs.declared.step.Step.{Step}
use Rattle.panel_rules.specs.Moments.{Moment}
use Rattle.panel_rules.specs.Operations.{Request, requests}
use Rattle.panel_rules.proofs.Answering.{numbered_by_place}
use Rattle.audit_rules.specs.ToldDone.{and_answer, and_answers_of, and_done_of, request_numbered, tells_done}
use Rattle.told_operations.specs.Asked.{asked_of}
use Rattle.told_operations.specs.Doing.{DoneIsListed, asked_numbered, done_as, done_by_answer, done_by_answers, done_in_step, done_in_steps}

-- ---- numbers

is_same : (m n : ℕ) → m ≡ n → (m == n) ≡ true
is_same m n same = elim (eqb_tells m n) [
  | inl h ↦ h.0
  | inr h ↦ absurd (h.1 same)
]

is_other : (m n : ℕ) → m ≢ n → (m == n) ≡ false
is_other m n other = elim (eqb_tells m n) [
  | inl h ↦ absurd (other h.1)
  | inr h ↦ h.0
]

-- requests whose numbers go on from one
abbrev pub AreNumberedFrom : ℕ → List Request → Type 0
AreNumberedFrom base asked = (k : ℕ) (r : Request) → slice_get asked k ≡ Some r → r.number ≡ base + k + 1

behind_first : (base : ℕ) (r : Request) (asked : List Request) → AreNumberedFrom base (r ∷ asked) → AreNumberedFrom (base + 1) asked
behind_first base r asked numbered k other is = (let e = numbered (suc k) other is in omega (arith, e))

-- that of a number stands at its place
found_at : (base : ℕ) (asked : List Request) → AreNumberedFrom base asked → (n : ℕ)
    → find (λ (r : Request). r.number == base + n + 1) asked ≡ slice_get asked n
found_at base [] numbered n = refl
found_at base (r ∷ asked) numbered zero =
    ap (λ b. if b then Some r else find (λ (r : Request). r.number == base + 0 + 1) asked) (is_same _ _ (numbered 0 r refl))
found_at base (r ∷ asked) numbered (suc n) =
    let first : r.number ≡ base + 0 + 1 = numbered 0 r refl in
    ap (λ b. if b then Some r else find (λ (r : Request). r.number == base + suc n + 1) asked) (is_other r.number (base + suc n + 1) (λ e. omega (arith, e, first)))
    ∙ ap (λ m. find (λ (r : Request). r.number == m) asked) (omega arith) ∙ found_at (base + 1) asked (behind_first base r asked numbered) n

-- none has number 0
none_found : (base : ℕ) (asked : List Request) → AreNumberedFrom base asked → find (λ (r : Request). r.number == 0) asked ≡ None
none_found base [] numbered = refl
none_found base (r ∷ asked) numbered =
    let first : r.number ≡ base + 0 + 1 = numbered 0 r refl in
    ap (λ b. if b then Some r else find (λ (r : Request). r.number == 0) asked) (is_other r.number 0 (λ e. omega (arith, e, first)))
    ∙ none_found (base + 1) asked (behind_first base r asked numbered)

module _ (asked : List Request) (numbered : AreNumberedFrom 0 asked) where
  pub number_is : (n : ℕ) → asked_numbered n (map asked_of asked) ≡ option_map asked_of (request_numbered n asked)
  number_is zero = sym (ap (option_map asked_of) (none_found 0 asked numbered))
  number_is (suc n) =
      slice_get-map asked_of asked n ∙ sym (ap (option_map asked_of) (ap (λ m. find (λ (r : Request). r.number == m) asked) (omega arith) ∙ found_at 0 asked numbered n))

  -- ---- answers

  one_done : (tick : ℕ) (before : List Done) (request : Option Request)
      → and_done_of tick request before ≡ reverse (done_as tick (option_map asked_of request)) ++ before
  one_done tick before None = refl
  one_done tick before (Some request) = refl

  by_truth : (tick : ℕ) (before : List Done) (number : ℕ) (told : Bool) → (if told then and_done_of tick (request_numbered number asked) before else before)
      ≡ reverse (if told then done_as tick (asked_numbered number (map asked_of asked)) else []) ++ before
  by_truth tick before number true =
      one_done tick before (request_numbered number asked) ∙ ap (λ o. reverse (done_as tick o) ++ before) (sym (number_is number))
  by_truth tick before number false = refl

  and_one : (tick : ℕ) (before : List Done) (answer : OpAnswer)
      → and_answer asked tick before answer ≡ reverse (done_by_answer (map asked_of asked) tick answer) ++ before
  and_one tick before answer = by_truth tick before answer.number (tells_done answer.reply)

  -- what was told before stands behind what is told then
  further : (one more before : List Done) → reverse more ++ (reverse one ++ before) ≡ reverse (one ++ more) ++ before
  further one more before = sym (append_assoc (reverse more) (reverse one) before) ∙ ap (λ xs. xs ++ before) (sym (reverse-append one more))

  and_all : (tick : ℕ) (answers : List OpAnswer) (before : List Done)
      → fold (and_answer asked tick) before answers ≡ reverse (done_by_answers (map asked_of asked) tick answers) ++ before
  and_all tick [] before = refl
  and_all tick (answer ∷ answers) before =
      and_all tick answers (and_answer asked tick before answer)
      ∙ ap (λ xs. reverse (done_by_answers (map asked_of asked) tick answers) ++ xs) (and_one tick before answer)
      ∙ further (done_by_answer (map asked_of asked) tick answer) (done_by_answers (map asked_of asked) tick answers) before

  pub and_steps : (steps : List Step) (before : List Done)
      → fold (and_answers_of asked) before steps ≡ reverse (done_in_steps (map asked_of asked) steps) ++ before
  and_steps [] before = refl
  and_steps (step ∷ steps) before =
      and_steps steps (and_answers_of asked before step)
      ∙ ap (λ xs. reverse (done_in_steps (map asked_of asked) steps) ++ xs) (and_all step.tick.0 step.answers.ops before)
      ∙ further (done_in_step (map asked_of asked) step) (done_in_steps (map asked_of asked) steps) before

pub numbered_all : (site : Site) (moments : List Moment) → AreNumberedFrom 0 (requests site moments)
numbered_all site moments k r is = (let e = numbered_by_place site moments k r is in omega (arith, e))

pub done_told : DoneIsListed
done_told site moments steps = sym (and_steps (requests site moments) (numbered_all site moments) steps [] ∙ append-nil _)

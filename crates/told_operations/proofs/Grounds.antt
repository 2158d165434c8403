-- Which answers nobody may have given, as marks by number tell it, and as the rules of an audit do.
use Rattle.std.proofs.Common.{inl, inr, ◌≡◌, ◌≢◌, ◌∙◌, ◌+◌, ◌-◌, ◌<◌, ◌≤◌, ◌++◌, ◌==◌, ◌||◌, not, ℕ, zero, suc, Bool, true, false, List, [], ◌∷◌}
use Rattle.std.proofs.Common.{Some, refl, sym, ap, arith, subst, length, take, drop, get_or, set, slice_get}
use Rattle.std.proofs.Common.{if◌then◌else◌, ◌⊎◌}
use Rattle.std.specs.List.{list_any}
use Rattle.std.proofs.lemmas.Bool.Decides.{eqb_tells}
use Rattle.std.proofs.lemmas.List.{drop_more, get_or-set_other, get_or-set_same, take_more}
use Rattle.std.proofs.lemmas.List.Folds.{list_any-append, list_any_more}
use Rattle.face_text.specs.declared.op_answer.OpAnswer.{OpAnswer}
use Rattle.face_text.specs.declared.reply.Reply.TheVariants.{Done as DoneReply}
use Rattle.face_text.specs.declared.step.Step.{Step}
use Rattle.audit_rules.specs.Answering.{was_answered}
use Rattle.told_operations.specs.declared.asked_operation.AskedOperation.{AskedOperation}
use Rattle.told_operations.specs.Doing.{asked_numbered}
use Rattle.told_operations.specs.Founding.{TellsAnswered, allows, first_groundless, has_groundless, lacks_ground}

-- ---- one answer

-- what stands behind the last one
abbrev pub no_answer : OpAnswer
no_answer = record { number = 0; reply = DoneReply }

pub numbered_at : (n : ℕ) (asked : List AskedOperation) → n ≢ 0 → asked_numbered n asked ≡ slice_get asked (n - 1)
numbered_at zero asked some = absurd (some refl)
numbered_at (suc n) asked some = ap (slice_get asked) (omega arith)

-- whose number isn't marked
pub not_answered : (asked : List AskedOperation) (answered : List Bool) (before : List Step) (tick : ℕ) (answer : OpAnswer) (one : AskedOperation) →
    answer.number ≢ 0 → slice_get asked (answer.number - 1) ≡ Some one → answer.number - 1 < length answered → TellsAnswered before answered
    → get_or answered (answer.number - 1) false ≡ false → not (allows tick answer (Some one)) ≡ lacks_ground asked before tick answer
not_answered asked answered before tick answer one some is within tells mark =
    let number : answer.number - 1 + 1 ≡ answer.number = omega (arith, some) in
    let was : was_answered answer.number before ≡ false =
    ap (λ n. was_answered n before) (sym number) ∙ sym (tells (answer.number - 1) within) ∙ mark in
    sym (ap (λ b. b || not (allows tick answer (asked_numbered answer.number asked))) was
    ∙ ap (λ o. not (allows tick answer o)) (numbered_at answer.number asked some ∙ is))

-- ---- marks

or_assoc : (a b c : Bool) → ((a || b) || c) ≡ (a || (b || c))
or_assoc true b c = refl
or_assoc false b c = refl

or_false : (a : Bool) → (a || false) ≡ a
or_false true = refl
or_false false = refl

or_true : (a : Bool) → (a || true) ≡ true
or_true true = refl
or_true false = refl

answers_number : ℕ → OpAnswer → Bool
answers_number number a = a.number == number

-- a mark that is set, and one that isn't touched
pub marks_more : (was : Bool) (answers : List OpAnswer) (place k : ℕ) (d : OpAnswer) (marked now : Bool) → place < length answers →
    marked ≡ (was || list_any (λ (a : OpAnswer). a.number == k + 1) (take place answers)) → now ≡ (marked || ((get_or answers place d).number == k + 1))
    → now ≡ (was || list_any (λ (a : OpAnswer). a.number == k + 1) (take (place + 1) answers))
marks_more was answers place k d marked now within so_far is =
    is ∙ ap (λ b. b || ((get_or answers place d).number == k + 1)) so_far ∙ or_assoc was _ _
    ∙ ap (λ b. was || b) (sym (list_any_more (λ (a : OpAnswer). a.number == k + 1) answers place d within))

pub mark_set : (marks : List Bool) (number k : ℕ) → number ≢ 0 → number ≤ length marks →
    get_or (set marks (number - 1) true) k false ≡ (get_or marks k false || (number == k + 1))
mark_set marks number k some few = elim (eqb_tells number (k + 1)) [
  | inl h ↦
      (let at : number - 1 ≡ k = (let e = h.1 in omega (arith, e)) in
      ap (λ n. get_or (set marks n true) k false) at ∙ get_or-set_same marks k true false (let e = h.1 in omega (arith, e, few))
      ∙ sym (ap (λ b. get_or marks k false || b) h.0 ∙ or_true (get_or marks k false)))
  | inr h ↦
      get_or-set_other marks (number - 1) k true false (λ e. h.1 (omega (arith, e, some)))
      ∙ sym (ap (λ b. get_or marks k false || b) h.0 ∙ or_false (get_or marks k false))
]

pub mark_kept : (marks : List Bool) (number k : ℕ) → k < length marks → (number ≡ 0) ⊎ (length marks < number) →
    get_or marks k false ≡ (get_or marks k false || (number == k + 1))
mark_kept marks number k within out = elim (eqb_tells number (k + 1)) [
  | inl h ↦ absurd (impossible h.1 out)
  | inr h ↦ sym (ap (λ b. get_or marks k false || b) h.0 ∙ or_false (get_or marks k false))
]
  where
    impossible : number ≡ k + 1 → (number ≡ 0) ⊎ (length marks < number) → ⊥
    impossible e (inl none) = absurd (omega (arith, e, none))
    impossible e (inr far) = absurd (omega (arith, e, far, within))

-- what a step answers is marked behind what the steps before it answered
pub marks_tell : (before : List Step) (step : Step) (answers : List OpAnswer) (old new : List Bool) → step.answers.ops ≡ answers →
    TellsAnswered before old → length new ≡ length old →
    ((k : ℕ) → k < length old → get_or new k false ≡ (get_or old k false || list_any (λ (a : OpAnswer). a.number == k + 1) answers))
    → TellsAnswered (before ++ step ∷ []) new
marks_tell before step answers old new are tells size marks k within =
    let small : k < length old = omega (arith, within, size) in
    marks k small ∙ ap (λ b. b || list_any (λ (a : OpAnswer). a.number == k + 1) answers) (tells k small)
    ∙ ap (λ ops. was_answered (k + 1) before || list_any (λ (a : OpAnswer). a.number == k + 1) ops) (sym are)
    ∙ ap (λ b. was_answered (k + 1) before || b) (sym (or_false _))
    ∙ sym (list_any-append (λ (s : Step). list_any (λ (a : OpAnswer). a.number == k + 1) s.answers.ops) before (step ∷ []))

-- ---- all steps

-- the steps before a place have no such answer, and the marks tell what they answer
pub record IsFoundedTo (asked : List AskedOperation) (steps : List Step) (place : ℕ) (answered : List Bool) : Type 0 where
  pub size : length answered ≡ length asked
  pub marks : TellsAnswered (take place steps) answered
  pub none : first_groundless asked [] steps ≡ first_groundless asked (take place steps) (drop place steps)

module _ (asked : List AskedOperation) (steps : List Step) (place : ℕ) (answered : List Bool) (step : Step) (within : place < length steps)
    (is : step ≡ get_or steps place step) (founded : IsFoundedTo asked steps place answered) where
  left : drop place steps ≡ step ∷ drop (place + 1) steps
  left = drop_more steps place step within ∙ ap (λ s. s ∷ drop (place + 1) steps) (sym is)

  so_far : take (place + 1) steps ≡ take place steps ++ step ∷ []
  so_far = take_more steps place step within ∙ ap (λ s. take place steps ++ s ∷ []) (sym is)

  by_answers : (b : Bool) → b ≡ has_groundless asked (take place steps) step → first_groundless asked [] steps
      ≡ (if b then Some step.tick.0 else first_groundless asked (take place steps ++ step ∷ []) (drop (place + 1) steps))
  by_answers b e =
      founded.none ∙ ap (first_groundless asked (take place steps)) left
      ∙ ap (λ t. if t then Some step.tick.0 else first_groundless asked (take place steps ++ step ∷ []) (drop (place + 1) steps)) (sym e)

  pub is_found : true ≡ has_groundless asked (take place steps) step → Some step.tick.0 ≡ first_groundless asked [] steps
  is_found e = sym (by_answers true e)

  pub goes_on : (marked : List Bool) → false ≡ has_groundless asked (take place steps) step → length marked ≡ length answered →
      TellsAnswered (take place steps ++ step ∷ []) marked → IsFoundedTo asked steps (place + 1) marked
  goes_on marked e size tells = record {
    size = size ∙ founded.size;
    marks = subst (λ before. TellsAnswered before marked) (sym so_far) tells;
    none = by_answers false e ∙ ap (λ before. first_groundless asked before (drop (place + 1) steps)) (sym so_far);
  }

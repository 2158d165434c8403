-- An answer of a tick is told.
use Rattle.std.proofs.Common.{◌≡◌, ◌≢◌, ◌∙◌, ◌||◌, ◌==◌, not, ℕ, zero, suc, Bool, true, false, List, [], ◌∷◌, length, if◌then◌else◌, inl, inr, refl, sym, ap}
use Rattle.std.specs.Prelude.{IsTrue, slice_index}
use Rattle.std.specs.List.{list_any}
use Rattle.std.proofs.lemmas.Bool.{ne_eqb}
use Rattle.site_types.specs.declared.site.Site.{Site}
use Rattle.site_types.specs.declared.retained.Retained.{Retained}
use Rattle.face_text.specs.declared.answers.Answers.{Answers}
use Rattle.face_text.specs.declared.op_answer.OpAnswer.{OpAnswer}
use Rattle.face_text.specs.Faces.{has_some, same_faces}
use Rattle.face_text.specs.Timelines.{HasAnswer}
use Rattle.panel_rules.specs.Moments.{Moment, tick_of}
use Rattle.panel_rules.specs.Operations.{Answered}
use Rattle.panel_rules.specs.Timeline.{answers_now, faces_of, failed_now, has_answer, told}
use Rattle.panel_laws.specs.FormLaws.{CanBeTold}
use Rattle.panel_laws.proofs.AnswersRise.{tells}
use Rattle.site_run.specs.Pages.{has_answers, page_text, written_text}
use Rattle.run_text.specs.SoFar.{tick_text}

some_ops : (ops : List OpAnswer) → ops ≢ [] → not (length ops == 0) ≡ true
some_ops [] n = absurd (n refl)
some_ops (op ∷ ops) n = ap not (ne_eqb (length (op ∷ ops)) 0 (λ e. suc_zero (length ops) e))
  where
    suc_zero : (k : ℕ) → suc k ≡ 0 → ⊥
    suc_zero k e = cc

some_number : (n : ℕ) → n ≢ 0 → has_some n ≡ true
some_number zero n = absurd (n refl)
some_number (suc k) n = ap not (ne_eqb (suc k) 0 n)

or_true : (b : Bool) → (b || true) ≡ true
or_true true = refl
or_true false = refl

some_busy : (busy : List ℕ) (place : ℕ) → slice_index busy place ≢ 0 → list_any has_some busy ≡ true
some_busy [] place n = absurd (n refl)
some_busy (x ∷ busy) zero n = ap (λ b. b || list_any has_some busy) (some_number x n)
some_busy (x ∷ busy) (suc place) n = ap (λ b. has_some x || b) (some_busy busy place n) ∙ or_true (has_some x)

is_true : (b : Bool) → IsTrue b → b ≡ true
is_true b h = h

answered_some : (answers : Answers) → HasAnswer answers → has_answers answers ≡ true
answered_some answers (inl ops) = ap (λ b. b || (list_any has_some answers.busy || answers.failed)) (some_ops answers.ops ops)
answered_some answers (inr (inl (place, n))) =
    ap (λ b. not (length answers.ops == 0) || (b || answers.failed)) (some_busy answers.busy place n) ∙ or_true (not (length answers.ops == 0))
answered_some answers (inr (inr failed)) =
    ap (λ b. not (length answers.ops == 0) || (list_any has_some answers.busy || b)) (is_true answers.failed failed)
    ∙ ap (λ b. not (length answers.ops == 0) || b) (or_true (list_any has_some answers.busy))
    ∙ or_true (not (length answers.ops == 0))

told_by : (xs : List Answered) (failed : Bool) → ((not (length xs == 0) || failed) ≡ true → HasAnswer (told xs failed))
    → has_answers (told xs failed) ≡ (not (length xs == 0) || failed)
told_by [] true h = refl
told_by [] false h = refl
told_by (x ∷ xs) failed h =
    let some : (not (length (x ∷ xs) == 0) || failed) ≡ true = ap (λ b. b || failed) (some_length x xs) in
    answered_some (told (x ∷ xs) failed) (h some) ∙ sym some
  where
    some_length : (x : Answered) (xs : List Answered) → not (length (x ∷ xs) == 0) ≡ true
    some_length x xs = ap not (ne_eqb (length (x ∷ xs)) 0 (λ e. cc))

module _ (site : Site) (kept : Retained) (before after : List Moment) (can : CanBeTold site kept after) where
  told_so : has_answers (told (answers_now site kept after) (failed_now site kept after)) ≡ has_answer site kept after
  told_so = told_by (answers_now site kept after) (failed_now site kept after) (tells site kept after can)

  -- what is written of a tick is what the rules tell of it
  pub same_answers :
      written_text site (tick_of after) (faces_of site kept before) (faces_of site kept after)
      (told (answers_now site kept after) (failed_now site kept after))
      ≡ tick_text site kept before after
  same_answers =
      ap (λ b. if not (same_faces (faces_of site kept after) (faces_of site kept before)) || b then
      page_text site (tick_of after) (faces_of site kept before) (faces_of site kept after)
      (told (answers_now site kept after) (failed_now site kept after)) else []) told_so

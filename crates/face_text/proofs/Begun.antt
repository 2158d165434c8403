-- Where the things of each panel begin, found panel by panel.
use Rattle.std.proofs.Common.{◌≡◌, ◌≢◌, ◌+◌, ◌<◌, ℕ, Bool, false, List, length, sym, ap, ◌∙◌, arith, subst, ⊎_elim, inl, inr}
use Rattle.std.specs.Prelude.{◌⊎◌, slice_set, take}
use Rattle.std.specs.List.{list_any}
use Rattle.std.proofs.lemmas.Bool.{cases_eq, cases_lt}
use Rattle.std.proofs.lemmas.Grind.{common_steps}
use Rattle.face_text.specs.Starts.{start_in, start_on}

-- the start of the number behind a place is set, if the list has it, and no other one
set_here : (starts : List ℕ) (place start : ℕ)
    → (start_in (slice_set starts place start) (place + 1) ≡ start) ⊎ (start_in (slice_set starts place start) (place + 1) ≡ 0)
set_here starts place start =
    ⊎_elim (λ within. inl (grind (arith, common_steps))) (λ past. inr (grind (arith, common_steps))) (cases_lt place (length starts))

set_elsewhere : (starts : List ℕ) (place start n : ℕ) → n ≢ place + 1 → start_in (slice_set starts place start) n ≡ start_in starts n
set_elsewhere starts place start n other = grind (arith, common_steps)

on_here : (starts : List (List ℕ)) (place line : ℕ) (loops : List ℕ) → place < 8
    → (start_on (slice_set starts place loops) (place + 1) line ≡ start_in loops line)
    ⊎ (start_on (slice_set starts place loops) (place + 1) line ≡ 0)
on_here starts place line loops few =
    ⊎_elim (λ within. inl (grind (arith, common_steps))) (λ past. inr (grind (arith, common_steps))) (cases_lt place (length starts))

on_elsewhere : (starts : List (List ℕ)) (place panel line : ℕ) (loops : List ℕ) → panel ≢ place + 1
    → start_on (slice_set starts place loops) panel line ≡ start_on starts panel line
on_elsewhere starts place panel line loops other = grind (arith, common_steps)

-- where none of the things that are passed is a panel's, none is where those of one panel more are found
module _ {X : Type 0} (xs : List X) where
  none_passed : (test : X → Bool) (set start : ℕ) → (set ≡ start) ⊎ (set ≡ 0) → list_any test (take start xs) ≡ false
      → list_any test (take set xs) ≡ false
  none_passed test set start (inl same) none = ap (λ n. list_any test (take n xs)) same ∙ none
  none_passed test set start (inr zero) none = ap (λ n. list_any test (take n xs)) zero

  pub one_start_more : (test : ℕ → X → Bool) (starts : List ℕ) (place start : ℕ)
      → ((panel : ℕ) → list_any (test panel) (take (start_in starts panel) xs) ≡ false)
      → list_any (test (place + 1)) (take start xs) ≡ false
      → (panel : ℕ) → list_any (test panel) (take (start_in (slice_set starts place start) panel) xs) ≡ false
  one_start_more test starts place start old new panel =
      ⊎_elim
      (λ same. subst (λ n. list_any (test n) (take (start_in (slice_set starts place start) n) xs) ≡ false) (sym same)
      (none_passed (test (place + 1)) _ start (set_here starts place start) new))
      (λ other. ap (λ n. list_any (test panel) (take n xs)) (set_elsewhere starts place start panel other) ∙ old panel)
      (cases_eq panel (place + 1))

  pub one_panel_more : (test : ℕ → ℕ → X → Bool) (starts : List (List ℕ)) (place : ℕ) (loops : List ℕ) → place < 8
      → ((panel line : ℕ) → list_any (test panel line) (take (start_on starts panel line) xs) ≡ false)
      → ((line : ℕ) → list_any (test (place + 1) line) (take (start_in loops line) xs) ≡ false)
      → (panel line : ℕ) → list_any (test panel line) (take (start_on (slice_set starts place loops) panel line) xs) ≡ false
  one_panel_more test starts place loops few old new panel line =
      ⊎_elim
      (λ same. subst (λ n. list_any (test n line) (take (start_on (slice_set starts place loops) n line) xs) ≡ false) (sym same)
      (none_passed (test (place + 1) line) _ (start_in loops line) (on_here starts place line loops few) (new line)))
      (λ other. ap (λ n. list_any (test panel line) (take n xs)) (on_elsewhere starts place panel line loops other) ∙ old panel line)
      (cases_eq panel (place + 1))

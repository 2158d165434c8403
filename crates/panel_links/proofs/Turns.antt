-- What the turn of a panel makes of what all panels keep.
use Rattle.std.proofs.Common.{◌≡◌, ℕ, ◌<◌, ◌≤◌, ◌==◌, ◌&&◌, nat_lt, List, ◌∷◌, Bool, true, false, if◌then◌else◌, refl, sym, ◌∙◌, ap, subst, arith, inl, inr}
use Rattle.std.proofs.lemmas.Bool.{and_left, cases_eq, eq-eqb, le-ltb, lt-ltb, ne_eqb}
use Rattle.site_types.specs.declared.word.Word.{Word}
use Rattle.panel_links.specs.Words.{Call, Took, carries, is_up, left_of, right_of}
use Rattle.panel_links.specs.Kept.{after_word, kept_word, newest}
use Rattle.panel_links.proofs.Chains.{after_keeps, kept_other, kept_own}

abbrev pub InRing : ℕ → ℕ → Type 0
InRing panels panel = (1 ≤ panel) × (panel ≤ panels)

module _ (panels panel : ℕ) (several : 1 < panels) (first : 1 ≤ panel) (last : panel ≤ panels) where
  pub left_apart : left_of panels panel ≡ panel → ⊥
  left_apart = elim (cases_eq panel 1) [
    | inl same ↦ (let test : (panel == 1) ≡ true = eq-eqb panel 1 same in rw test (λ e. omega arith))
    | inr apart ↦ (let test : (panel == 1) ≡ false = ne_eqb panel 1 apart in rw test (λ e. omega arith))
  ]

  pub right_apart : right_of panels panel ≡ panel → ⊥
  right_apart = elim (cases_eq panel panels) [
    | inl same ↦ (let test : (panel == panels) ≡ true = eq-eqb panel panels same in rw test (λ e. omega arith))
    | inr apart ↦ (let test : (panel == panels) ≡ false = ne_eqb panel panels apart in rw test (λ e. omega arith))
  ]

  pub left_in : InRing panels (left_of panels panel)
  left_in = elim (cases_eq panel 1) [
    | inl same ↦ (let test : (panel == 1) ≡ true = eq-eqb panel 1 same in rw test (omega arith, omega arith))
    | inr apart ↦ (let test : (panel == 1) ≡ false = ne_eqb panel 1 apart in rw test (omega arith, omega arith))
  ]

  pub right_in : InRing panels (right_of panels panel)
  right_in = elim (cases_eq panel panels) [
    | inl same ↦ (let test : (panel == panels) ≡ true = eq-eqb panel panels same in rw test (omega arith, omega arith))
    | inr apart ↦ (let test : (panel == panels) ≡ false = ne_eqb panel panels apart in rw test (omega arith, omega arith))
  ]

-- the newer of a word and the same one, or of one that stayed or became newer and that word, is the first
newest_stays : (word kept : Word) → kept.stamp.0 ≤ word.stamp.0 → newest word kept ≡ word
newest_stays word kept older = (let test : nat_lt word.stamp.0 kept.stamp.0 ≡ false = le-ltb word.stamp.0 kept.stamp.0 older in rw test refl)

-- what is newest of three, where a neighbour over a link that is down is the panel itself
over_links : (left_up right_up : Bool) (kept left right : Word)
    → newest (newest kept (if left_up then left else kept)) (if right_up then right else kept)
    ≡ after_word right_up (after_word left_up kept left) right
over_links true true kept left right = refl
over_links false true kept left right = ap (λ k. newest k right) (newest_stays kept kept (omega arith))
over_links true false kept left right = newest_stays (newest kept left) kept (after_keeps true kept left)
over_links false false kept left right =
    ap (λ k. newest k kept) (newest_stays kept kept (omega arith)) ∙ newest_stays kept kept (omega arith)

-- what is kept if the tick carries the word
if_carried : (several carried left_up right_up : Bool) (kept left right : Word) → several ≡ true
    → (if carried then after_word right_up (after_word left_up kept left) right else kept)
    ≡ after_word (several && (right_up && carried)) (after_word (several && (left_up && carried)) kept left) right
if_carried false carried left_up right_up kept left right e = absurd cc
if_carried true true true true kept left right e = refl
if_carried true true true false kept left right e = refl
if_carried true true false true kept left right e = refl
if_carried true true false false kept left right e = refl
if_carried true false true true kept left right e = refl
if_carried true false true false kept left right e = refl
if_carried true false false true kept left right e = refl
if_carried true false false false kept left right e = refl

at_either : (up : Bool) (number near own : ℕ) (words : ℕ → Word) → number ≡ (if up then near else own)
    → words number ≡ (if up then words near else words own)
at_either true number near own words is = ap words is
at_either false number near own words is = ap words is

-- the tables before a turn, after the own word and after the neighbours' words
module _ (panels tick panel : ℕ) (own : Word) (calls : List Call) (k0 k1 k2 : ℕ → ℕ → Word) (several : 1 < panels) (within : InRing panels panel)
    (left right : ℕ) (left_up right_up : Bool)
    (known : (a o : ℕ) → InRing panels a → InRing panels o → k0 a o ≡ kept_word panels o a calls)
    (kept : (a o : ℕ) → InRing panels a → InRing panels o → k1 a o ≡ (if (a == panel) && (o == panel) then own else k0 a o))
    (took : (a o : ℕ) → InRing panels a → InRing panels o
    → k2 a o ≡ (if (a == panel) && carries panels tick o then newest (newest (k1 a o) (k1 left o)) (k1 right o) else k1 a o))
    (left_is : left ≡ (if left_up then left_of panels panel else panel)) (right_is : right ≡ (if right_up then right_of panels panel else panel))
    (left_by : left_up ≡ is_up (left_of panels panel) calls) (right_by : right_up ≡ is_up panel calls) where
  kept_apart : (a o : ℕ) → InRing panels a → InRing panels o → (a ≡ panel → ⊥) → k1 a o ≡ kept_word panels o a calls
  kept_apart a o ha ho apart =
      kept a o ha ho ∙ ap (λ b. if b then own else k0 a o) (and_left (a == panel) (o == panel) (ne_eqb a panel apart)) ∙ known a o ha ho

  took_apart : (a o : ℕ) → InRing panels a → InRing panels o → (a ≡ panel → ⊥) → k2 a o ≡ k1 a o
  took_apart a o ha ho apart =
      took a o ha ho ∙ ap (λ b. if b then newest (newest (k1 a o) (k1 left o)) (k1 right o) else k1 a o)
      (and_left (a == panel) (carries panels tick o) (ne_eqb a panel apart))

  at_panel : (b : Bool) → ((panel == panel) && b) ≡ b
  at_panel b = ap (λ t. t && b) (eq-eqb panel panel refl)

  here_turned : (o : ℕ) → InRing panels o → k2 panel o ≡ kept_word panels o panel (Took tick panel own ∷ calls)
  here_turned o ho =
      let near = left_in panels panel several within.0 within.1 in
      let far = right_in panels panel several within.0 within.1 in
      let up_left = is_up (left_of panels panel) calls in
      let up_right = is_up panel calls in
      let by_left = kept_word panels o (left_of panels panel) calls in
      let by_right = kept_word panels o (right_of panels panel) calls in
      let base = if o == panel then own else kept_word panels o panel calls in
      let first : k1 panel o ≡ base =
      kept panel o within ho ∙ ap (λ b. if b then own else k0 panel o) (at_panel (o == panel)) ∙ ap (λ k. if o == panel then own else k)
      (known panel o within ho) in
      let from_left : k1 left o ≡ (if up_left then by_left else base) =
      at_either left_up left (left_of panels panel) panel (λ p. k1 p o) left_is
      ∙ ap (λ b. if b then k1 (left_of panels panel) o else k1 panel o) left_by
      ∙ ap (λ k. if up_left then k else k1 panel o)
      (kept_apart (left_of panels panel) o near ho (left_apart panels panel several within.0 within.1))
      ∙ ap (λ k. if up_left then by_left else k) first in
      let from_right : k1 right o ≡ (if up_right then by_right else base) =
      at_either right_up right (right_of panels panel) panel (λ p. k1 p o) right_is
      ∙ ap (λ b. if b then k1 (right_of panels panel) o else k1 panel o) right_by
      ∙ ap (λ k. if up_right then k else k1 panel o)
      (kept_apart (right_of panels panel) o far ho (right_apart panels panel several within.0 within.1))
      ∙ ap (λ k. if up_right then by_right else k) first in
      took panel o within ho
      ∙ ap (λ b. if b then newest (newest (k1 panel o) (k1 left o)) (k1 right o) else k1 panel o) (at_panel (carries panels tick o))
      ∙ ap (λ k. if carries panels tick o then newest (newest k (k1 left o)) (k1 right o) else k) first
      ∙ ap (λ k. if carries panels tick o then newest (newest base k) (k1 right o) else base) from_left
      ∙ ap (λ k. if carries panels tick o then newest (newest base (if up_left then by_left else base)) k else base) from_right
      ∙ ap (λ k. if carries panels tick o then k else base) (over_links up_left up_right base by_left by_right)
      ∙ if_carried (nat_lt 1 panels) (carries panels tick o) up_left up_right base by_left by_right (lt-ltb 1 panels several)
      ∙ sym (kept_own panels o panel tick panel own calls refl)

  pub turned : (a o : ℕ) → InRing panels a → InRing panels o → k2 a o ≡ kept_word panels o a (Took tick panel own ∷ calls)
  turned a o ha ho = elim (cases_eq a panel) [
    | inl same ↦ subst (λ p. k2 p o ≡ kept_word panels o p (Took tick panel own ∷ calls)) (sym same) (here_turned o ho)
    | inr apart ↦ took_apart a o ha ho apart ∙ kept_apart a o ha ho apart ∙ sym (kept_other panels o a tick panel own calls (λ e. apart (sym e)))
  ]

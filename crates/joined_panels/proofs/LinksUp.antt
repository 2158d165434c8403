-- A way is up where each of its links is.
use Rattle.std.proofs.Common.{◌≡◌, ◌⊎◌, ℕ, zero, suc, ◌+◌, ◌<◌, ◌&&◌, Bool, true, false, inl, inr, refl, sym, ◌∙◌, ap, add-one, arith}
use Rattle.std.proofs.lemmas.Bool.Decides.{leb_tells}
use Rattle.panel_rules.proofs.Bools.{both, parts}
use Rattle.panel_rules.specs.Ring.{link_on}
use Rattle.joined_panels.specs.Links.{are_up}

module _ (is_up : ℕ → Bool) (panels from : ℕ) where
  -- the last of so many links, or one before it
  last_or : (step n : ℕ) → step < suc n → (step ≡ n) ⊎ (step < n)
  last_or step n l = elim (leb_tells n step) [ inl h ↦ inl (let k = h.1 in omega (arith, k, l)) | inr h ↦ inr h.1 ]

  not_both : (a b : Bool) → (a ≡ false) ⊎ (b ≡ false) → (a && b) ≡ false
  not_both true b (inl h) = absurd cc
  not_both true b (inr h) = h
  not_both false b h = refl

  pub one_down : (n step : ℕ) → step < n → is_up (link_on panels from step) ≡ false → are_up is_up panels from n ≡ false
  one_down zero step l h = absurd (omega (arith, l))
  one_down (suc n) step l h =
      elim (last_or step n l) [
        | inl e ↦ not_both (are_up is_up panels from n) (is_up (link_on panels from n)) (inr (ap (λ k. is_up (link_on panels from k)) (sym e) ∙ h))
        | inr k ↦ not_both (are_up is_up panels from n) (is_up (link_on panels from n)) (inl (one_down n step k h))
      ]

  pub one_more : (n : ℕ) → are_up is_up panels from n ≡ true → is_up (link_on panels from n) ≡ true → are_up is_up panels from (n + 1) ≡ true
  one_more n a b = rw add-one (both (are_up is_up panels from n) (is_up (link_on panels from n)) a b)

  -- each of them is up
  pub each_up : (n step : ℕ) → are_up is_up panels from n ≡ true → step < n → is_up (link_on panels from step) ≡ true
  each_up zero step h l = absurd (omega (arith, l))
  each_up (suc n) step h l =
      let two = parts (are_up is_up panels from n) (is_up (link_on panels from n)) h in
      elim (last_or step n l) [
        | inl e ↦ ap (λ k. is_up (link_on panels from k)) e ∙ two.1
        | inr k ↦ each_up n step two.0 k
      ]

  pub all_up : (n : ℕ) → ((step : ℕ) → step < n → is_up (link_on panels from step) ≡ true) → are_up is_up panels from n ≡ true
  all_up zero h = refl
  all_up (suc n) h =
      both (are_up is_up panels from n) (is_up (link_on panels from n)) (all_up n (λ step l. h step (omega (arith, l)))) (h n (omega arith))

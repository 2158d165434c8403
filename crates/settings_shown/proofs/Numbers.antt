-- Masks by panel, in which the bit of one number of one panel is set or cleared.
use Rattle.std.proofs.Common.{◌≡◌, ◌≢◌, inl, inr, ℕ, ◌+◌, ◌-◌, ◌<◌, ◌^◌, Bool, List, length, get_or, sym, ◌∙◌, ap, subst, arith}
use Rattle.std.proofs.Common.{get_or-set_same, get_or-set_other}
use Rattle.std.specs.Int.{w32}
use Rattle.std.proofs.lemmas.Bool.Decides.{eqb_tells}
use Rattle.site_types.specs.Bits.{has_bit, mask_of, with_bit}
use Rattle.site_types.specs.Changes.{IsNumber, IsPanelNumber, with_number}
use Rattle.site_types.proofs.ChangedBits.{number-same, number-other}
use Rattle.site_types.proofs.Masks.{has_bit-mask, mask_below, mask_from_bits, with_bit-wider}

-- where each mask was that of a test, and the test is now another at that number alone, each mask is that of the new test
module _ (masks : List ℕ) (panel number : ℕ) (on : Bool) (before after : ℕ → ℕ → Bool) (size : length masks ≡ 8) (here : IsPanelNumber panel)
    (place : IsNumber number) (this : after panel number ≡ on) (others : (p n : ℕ) → (p ≡ panel → n ≡ number → ⊥) → after p n ≡ before p n)
    (were : (p : ℕ) → IsPanelNumber p → get_or masks (p - 1) 0 ≡ mask_of 32 (λ k. before p (k + 1))) where
  abbrev written : ℕ
  written = with_bit w32 (get_or masks (panel - 1) 0) (number - 1) on

  fitted : (p : ℕ) → IsPanelNumber p → get_or masks (p - 1) 0 < 2 ^ 32
  fitted p at = subst (λ m. m < 2 ^ 32) (sym (were p at)) (mask_below 32 (λ k. before p (k + 1)))

  fits : (p : ℕ) → IsPanelNumber p → get_or (with_number masks panel number on) (p - 1) 0 < 2 ^ 32
  fits p at = elim (eqb_tells p panel) [
    | inl same ↦ subst (λ m. m < 2 ^ 32)
        (sym (ap (λ q. get_or (with_number masks panel number on) (q - 1) 0) same.1
        ∙ get_or-set_same masks (panel - 1) written 0 (omega (arith, size, here.0, here.1))))
        (with_bit-wider w32 w32 (get_or masks (panel - 1) 0) (number - 1) on (omega arith) (fitted panel here) (omega (arith, place.0, place.1))).0
    | inr other ↦ (let far = other.1 in
        let ne : p - 1 ≢ panel - 1 = (λ h. far (omega (arith, h, here.0, at.0))) in
        subst (λ m. m < 2 ^ 32) (sym (get_or-set_other masks (panel - 1) (p - 1) written 0 ne)) (fitted p at))
  ]

  this_bit : (p k : ℕ) → p ≡ panel → k + 1 ≡ number → has_bit (get_or (with_number masks panel number on) (p - 1) 0) k ≡ after p (k + 1)
  this_bit p k same_panel same_number =
      let bit : k ≡ number - 1 = omega (arith, same_number) in
      ap (λ q. has_bit (get_or (with_number masks panel number on) (q - 1) 0) k) same_panel
      ∙ ap (has_bit (get_or (with_number masks panel number on) (panel - 1) 0)) bit
      ∙ number-same masks panel number on size here place
      ∙ sym (ap (λ q. after q (k + 1)) same_panel ∙ ap (after panel) same_number ∙ this)

  other_bit : (p k : ℕ) → IsPanelNumber p → k < 32 → (p ≡ panel → k + 1 ≡ number → ⊥)
      → has_bit (get_or (with_number masks panel number on) (p - 1) 0) k ≡ after p (k + 1)
  other_bit p k at small apart =
      let bit : k + 1 - 1 ≡ k = omega arith in
      ap (has_bit (get_or (with_number masks panel number on) (p - 1) 0)) (sym bit)
      ∙ number-other masks panel number on size here place p (k + 1) at (omega arith, omega (arith, small)) apart
      ∙ ap (has_bit (get_or masks (p - 1) 0)) bit
      ∙ ap (λ m. has_bit m k) (were p at)
      ∙ has_bit-mask 32 (λ j. before p (j + 1)) k small
      ∙ sym (others p (k + 1) apart)

  bits : (p : ℕ) → IsPanelNumber p → (k : ℕ) → k < 32 → has_bit (get_or (with_number masks panel number on) (p - 1) 0) k ≡ after p (k + 1)
  bits p at k small = elim (eqb_tells p panel) [
    | inl same ↦ elim (eqb_tells (k + 1) number) [
      | inl one ↦ this_bit p k same.1 one.1
      | inr far ↦ other_bit p k at small (λ _ e. far.1 e)
    ]
    | inr far ↦ other_bit p k at small (λ e _. far.1 e)
  ]

  pub number_put : (p : ℕ) → IsPanelNumber p → get_or (with_number masks panel number on) (p - 1) 0 ≡ mask_of 32 (λ k. after p (k + 1))
  number_put p at = mask_from_bits 32 (get_or (with_number masks panel number on) (p - 1) 0) (λ k. after p (k + 1)) (fits p at) (bits p at)

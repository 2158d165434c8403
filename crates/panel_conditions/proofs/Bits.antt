-- When one mask has a bit that the other hasn't.
use Rattle.std.proofs.Common.{◌≡◌, ℕ, zero, suc, ◌+◌, ◌<◌, ◌^◌, Bool, true, false, not, ◌==◌, ◌&&◌, ◌||◌, if◌then◌else◌, bit_and, refl, sym, ◌∙◌, ap, arith}
use Rattle.std.proofs.lemmas.Bool.Decides.{nat_tests}
use Rattle.std.proofs.lemmas.Nat.{pow_pos}
use Rattle.std.specs.Int.{Width, bit_not}
use mir.Val.{bits}
use Rattle.site_types.specs.Bits.{any_below, has_bit, mask_of}
use Rattle.site_types.proofs.Masks.{mask_none, mask_more, mask_without}
use Rattle.panel_conditions.specs.Shown.{has_more}

or_false : (a : Bool) {b : Bool} → b ≡ false → (a || b) ≡ a
or_false true e = refl
or_false false e = e

or_true : (a : Bool) {b : Bool} → b ≡ true → (a || b) ≡ true
or_true true e = refl
or_true false e = e

some_left : (m n : ℕ) → 0 < n → not (m + n == 0) ≡ true
some_left m n h = grind (arith, nat_tests)

same_left : (m n : ℕ) → n ≡ 0 → m + n ≡ m
same_left m n h = omega arith

-- a mask is not 0 where one of its tests holds
pub any_mask : (n : ℕ) (test : ℕ → Bool) → not (mask_of n test == 0) ≡ any_below n test
unfolding any_below
any_mask zero test = ap (λ m. not (m == 0)) (mask_none test)
any_mask (suc n) test = go (test n) refl (any_mask n test)
  where
    go : (b : Bool) → test n ≡ b → not (mask_of n test == 0) ≡ any_below n test → not (mask_of (suc n) test == 0) ≡ (any_below n test || test n)
    go true e ih =
        ap (λ m. not (m == 0)) (mask_more n test ∙ ap (λ b. mask_of n test + (if b then 2 ^ n else 0)) e)
        ∙ some_left (mask_of n test) (2 ^ n) (pow_pos n) ∙ sym (or_true (any_below n test) e)
    go false e ih =
        ap (λ m. not (m == 0)) (mask_more n test ∙ same_left (mask_of n test) _ (ap (λ b. if b then 2 ^ n else 0) e))
        ∙ ih ∙ sym (or_false (any_below n test) e)

pub more_is : (w : Width) (shown before : ℕ) → before < 2 ^ bits w → bit_and shown (bit_not w before) < 2 ^ bits w →
    not (bit_and shown (bit_not w before) == 0) ≡ has_more (bits w) shown before
more_is w shown before bound below =
    ap (λ m. not (m == 0)) (mask_without w shown before bound below) ∙ any_mask (bits w) (λ k. has_bit shown k && not (has_bit before k))

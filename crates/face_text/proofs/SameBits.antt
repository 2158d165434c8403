-- Bits from one on that are clear, the first that is set, and those in which two numbers differ.
use Rattle.std.proofs.Common.{◌≡◌, ◌≢◌, inl, inr, ℕ, zero, suc, ◌+◌, ◌-◌, ◌/◌, ◌%◌, ◌<◌, ◌≤◌, ◌^◌, true, false, ◌==◌, refl, sym, ◌∙◌, ap, arith, mod-lt, eq-zero-or-pos}
use Rattle.std.specs.Int.{w128, bit_at, trailing_zeros}
use Rattle.std.specs.Int.Bits.{bit_xor}
use Rattle.std.specs.Int.Count.{trailing_of_zero}
use Rattle.std.proofs.lemmas.Nat.{shr-shr, shr_le}
use Rattle.std.proofs.lemmas.Nat.Bits.{bit_at-trailing_zeros, bit_at_xor}
use Rattle.site_types.specs.Bits.{has_bit}
use Rattle.site_types.proofs.Masks.{has_bit-zero}

low_clear : (n i : ℕ) → n < 2 ^ 128 → i < trailing_zeros w128 n → has_bit n i ≡ false
low_clear n i fits less = elim (eq-zero-or-pos n) [
  | inl none ↦ ap (λ m. has_bit m i) none ∙ has_bit-zero i
  | inr some ↦ ap (λ b. b == 1) ((bit_at-trailing_zeros w128 n some fits).2 i less)
]

bit_behind : (mask from k : ℕ) → has_bit (mask / 2 ^ from) k ≡ has_bit mask (from + k)
bit_behind mask from k = ap (λ n. n % 2 == 1) (shr-shr mask from k)

-- the bits from one on up to the first that is set
pub clear_up_to : (mask from k : ℕ) → mask < 2 ^ 128 → from ≤ k → k < from + trailing_zeros w128 (mask / 2 ^ from) → has_bit mask k ≡ false
clear_up_to mask from k fits le less =
    let rest = mask / 2 ^ from in
    let fitting : rest < 2 ^ 128 = omega (arith, fits, shr_le mask from) in
    let place : from + (k - from) ≡ k = omega (arith, le) in
    let below : k - from < trailing_zeros w128 rest = omega (arith, le, less) in
    sym (bit_behind mask from (k - from) ∙ ap (has_bit mask) place) ∙ low_clear rest (k - from) fitting below

pub set_behind : (mask from : ℕ) → mask < 2 ^ 128 → trailing_zeros w128 (mask / 2 ^ from) < 128
    → has_bit mask (from + trailing_zeros w128 (mask / 2 ^ from)) ≡ true
set_behind mask from fits less =
    let rest = mask / 2 ^ from in
    let fitting : rest < 2 ^ 128 = omega (arith, fits, shr_le mask from) in
    elim (eq-zero-or-pos rest) [
      | inl none ↦ (let all : trailing_zeros w128 rest ≡ 128 = ap (trailing_zeros w128) none ∙ trailing_of_zero 128 in absurd (omega (arith, all, less)))
      | inr some ↦ sym (bit_behind mask from (trailing_zeros w128 rest)) ∙ ap (λ b. b == 1) ((bit_at-trailing_zeros w128 rest some fitting).1)
    ]

even_sum : (x y : ℕ) → x < 2 → y < 2 → ((x + y) % 2 == 1) ≡ false → (x == 1) ≡ (y == 1)
even_sum zero zero a b h = refl
even_sum zero (suc zero) a b h = cc
even_sum (suc zero) zero a b h = cc
even_sum (suc zero) (suc zero) a b h = refl
even_sum (suc (suc x)) y a b h = absurd (omega (arith, a))
even_sum x (suc (suc y)) a b h = absurd (omega (arith, b))

odd_sum : (x y : ℕ) → x < 2 → y < 2 → ((x + y) % 2 == 1) ≡ true → (x == 1) ≢ (y == 1)
odd_sum zero zero a b h = cc
odd_sum zero (suc zero) a b h = λ e. cc
odd_sum (suc zero) zero a b h = λ e. cc
odd_sum (suc zero) (suc zero) a b h = cc
odd_sum (suc (suc x)) y a b h = absurd (omega (arith, a))
odd_sum x (suc (suc y)) a b h = absurd (omega (arith, b))

pub same_bit : (one other k : ℕ) → has_bit (bit_xor one other) k ≡ false → has_bit one k ≡ has_bit other k
same_bit one other k clear =
    even_sum (bit_at one k) (bit_at other k) (mod-lt _ (omega arith)) (mod-lt _ (omega arith)) (sym (ap (λ b. b == 1) (bit_at_xor one other k)) ∙ clear)

pub other_bit : (one other k : ℕ) → has_bit (bit_xor one other) k ≡ true → has_bit one k ≢ has_bit other k
other_bit one other k set =
    odd_sum (bit_at one k) (bit_at other k) (mod-lt _ (omega arith)) (mod-lt _ (omega arith)) (sym (ap (λ b. b == 1) (bit_at_xor one other k)) ∙ set)

-- The first bit that is set from a bit on, and masks of which a bit is cleared.
use Rattle.std.proofs.Common.{◌≡◌, ◌≢◌, ◌⊎◌, inl, inr, ℕ, ◌+◌, ◌-◌, ◌/◌, ◌%◌, ◌<◌, ◌≤◌, ◌^◌, true, false, ◌==◌, nat_lt, sym, ◌∙◌, ap, subst, arith}
use Rattle.std.specs.Int.{w32, bit_at, trailing_zeros}
use Rattle.std.proofs.lemmas.Nat.{and_le_l, shr-shr, shr_below, shr_le}
use Rattle.std.proofs.lemmas.Nat.Bits.{bit_at-trailing_zeros, bit_at_above}
use Rattle.std.proofs.lemmas.Bool.Decides.{eqb_tells}
use Rattle.site_types.specs.Bits.{has_bit, with_bit}
use Rattle.site_types.proofs.Masks.{has_bit-above, has_bit-zero}
use Rattle.site_types.proofs.Done.{lt_tells}

shifted : (mask from i : ℕ) → has_bit (mask / 2 ^ from) i ≡ has_bit mask (from + i)
shifted mask from i = ap (λ n. n % 2 == 1) (shr-shr mask from i)

seen : (mask from k : ℕ) → from ≤ k → has_bit mask k ≡ has_bit (mask / 2 ^ from) (k - from)
seen mask from k le = let e : from + (k - from) ≡ k = omega (arith, le) in sym (shifted mask from (k - from) ∙ ap (has_bit mask) e)

-- nothing is left
pub none_from : (mask from : ℕ) → mask / 2 ^ from ≡ 0 → (k : ℕ) → from ≤ k → has_bit mask k ≡ false
none_from mask from e k le = seen mask from k le ∙ ap (λ m. has_bit m (k - from)) e ∙ has_bit-zero (k - from)

-- the lowest bit of what is left
pub record IsNext (mask from next : ℕ) : Type 0 where
  pub small : next < 32
  pub set : has_bit mask next ≡ true
  pub none : (k : ℕ) → from ≤ k → k < next → has_bit mask k ≡ false

pub next_from : (mask from zeros : ℕ) → mask < 2 ^ 32 → from < 32 → 0 < mask / 2 ^ from → zeros ≡ trailing_zeros w32 (mask / 2 ^ from)
    → IsNext mask from (from + zeros)
next_from mask from zeros below small some e = record {
  small = within (lt_tells zeros (32 - from));
  set = sym (shifted mask from zeros) ∙ ap (λ n. n == 1) one;
  none =
      λ k le less.
      seen mask from k le ∙ ap (λ n. n == 1)
      (lowest.2 (k - from) (subst (λ n. k - from < n) e (let l : k - from < zeros = omega (arith, le, less) in l)));
}
  where
    rest : ℕ
    rest = mask / 2 ^ from

    fits : rest < 2 ^ (32 - from)
    fits = shr_below mask (32 - from) from (let same : 32 - from + from ≡ 32 = omega (arith, small) in subst (λ n. mask < 2 ^ n) (sym same) below)

    fits_32 : rest < 2 ^ 32
    fits_32 = omega (arith, below, shr_le mask from)

    lowest : (trailing_zeros w32 rest < 32) × (bit_at rest (trailing_zeros w32 rest) ≡ 1)
        × ((i : ℕ) → i < trailing_zeros w32 rest → bit_at rest i ≡ 0)
    lowest = bit_at-trailing_zeros w32 rest some fits_32

    one : bit_at rest zeros ≡ 1
    one = ap (bit_at rest) e ∙ lowest.1

    within : ((nat_lt zeros (32 - from) ≡ true) × (zeros < 32 - from)) ⊎ ((nat_lt zeros (32 - from) ≡ false) × (32 - from ≤ zeros))
        → from + zeros < 32
    within (inl less) = let l = less.1 in omega (arith, l, small)
    within (inr other) = let none : bit_at rest zeros ≡ 0 = bit_at_above rest (32 - from) zeros fits other.1 in let no_way = sym none ∙ one in cc

-- a mask is smaller where a bit of it was cleared
pub cleared_smaller : (mask bit rest : ℕ) → rest ≡ with_bit w32 mask bit false → has_bit mask bit ≡ true → has_bit rest bit ≡ false → rest < mask
cleared_smaller mask bit rest is was cleared =
    let least : rest ≤ mask = subst (λ n. n ≤ mask) (sym is) (and_le_l mask _) in
    let apart : rest ≢ mask = λ e. (let at = ap (λ n. has_bit n bit) e in cc) in
    omega (arith, least, apart)

-- where one bit of a mask was cleared all others stay, those past its end too
pub others_stay : (mask rest bit j : ℕ) → mask < 2 ^ 32 → rest < 2 ^ 32
    → ((k : ℕ) → k < 32 → k ≢ bit → has_bit rest k ≡ has_bit mask k) → j ≢ bit → has_bit rest j ≡ has_bit mask j
others_stay mask rest bit j fits below others apart = elim (lt_tells j 32) [
  | inl less ↦ others j less.1 apart
  | inr past ↦ has_bit-above 32 rest j below past.1 ∙ sym (has_bit-above 32 mask j fits past.1)
]

-- where one bit of a mask was cleared no bit is new
pub fewer_bits : (mask rest bit : ℕ) → mask < 2 ^ 32 → rest < 2 ^ 32 → ((k : ℕ) → k < 32 → k ≢ bit → has_bit rest k ≡ has_bit mask k)
    → has_bit rest bit ≡ false → (j : ℕ) → has_bit rest j ≡ true → has_bit mask j ≡ true
fewer_bits mask rest bit fits below others cleared j on = elim (eqb_tells j bit) [
  | inl same ↦ absurd (let off = ap (has_bit rest) same.1 ∙ cleared in let no_way : true ≡ false = sym on ∙ off in cc)
  | inr far ↦ sym (others_stay mask rest bit j fits below others far.1) ∙ on
]

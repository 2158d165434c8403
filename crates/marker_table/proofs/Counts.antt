-- A mask that has one input more counts one more where that is true.
use Rattle.std.proofs.Common.{◌≡◌, ◌≢◌, ◌<◌, ◌+◌, ◌/◌, ◌%◌, inl, inr, ℕ, zero, suc, Bool, true, false, refl, sym, subst, ap, ◌∙◌, arith, min, bit_and, count_ones}
use Rattle.std.specs.Prelude.{slice_index_or}
use Rattle.std.specs.Int.{bit_at, w32}
use Rattle.std.proofs.lemmas.Bool.Decides.{eqb_tells}
use Rattle.std.proofs.lemmas.Nat.Bits.{bit_at_lowest, bit_at-suc, bit_at-lt, bit_at_and, bit_at_set_same, bit_at_set_other, same_from_bits}
use lib.Count.{ones_step}
use Rattle.site_types.specs.Bits.{has_bit, with_bit}
use Rattle.site_types.proofs.Masks.{has_bit-zero}
use Rattle.marker_table.specs.declared.input.Input.{Input}
use Rattle.marker_table.specs.declared.input.Input.TheVariants.{Zone as ZoneInput, Manual as ManualInput, Fault as FaultInput, Marker as MarkerInput}
use Rattle.marker_table.specs.declared.mask.Mask.{Mask}
use Rattle.marker_table.specs.Table.{AddsInput, input_bit, no_mask, one_if, input_word}

-- ---- ones

-- a number with one bit more has a 1 more
one_more : (k a b : ℕ) → ((i : ℕ) → i ≢ k → bit_at b i ≡ bit_at a i) → bit_at a k ≡ 0 → bit_at b k ≡ 1 → count_ones b ≡ count_ones a + 1
one_more zero a b same off on =
    let high : b / 2 ≡ a / 2 = same_from_bits (b / 2) (a / 2)
    (λ i. sym (bit_at-suc b i) ∙ (same (suc i) (λ e. omega (arith, e)) ∙ bit_at-suc a i)) in
    let equal = ap count_ones high in
    omega (arith, ones_step a, ones_step b, equal, bit_at_lowest a, bit_at_lowest b, off, on)
one_more (suc k) a b same off on =
    let low : b % 2 ≡ a % 2 = sym (bit_at_lowest b) ∙ (same 0 (λ e. omega (arith, e)) ∙ bit_at_lowest a) in
    let rest = one_more k (a / 2) (b / 2)
    (λ i apart. sym (bit_at-suc b i) ∙ (same (suc i) (λ e. apart (omega (arith, e))) ∙ bit_at-suc a i))
    (sym (bit_at-suc a k) ∙ off) (sym (bit_at-suc b k) ∙ on) in
    omega (arith, ones_step a, ones_step b, low, rest)

bit_off : (n k : ℕ) → has_bit n k ≡ false → bit_at n k ≡ 0
bit_off n k off = elim (eqb_tells (bit_at n k) 1) [
  | inl one ↦ absurd (let on = one.0 in cc (on, off))
  | inr other ↦ (let apart = other.1 in omega (arith, apart, bit_at-lt n k))
]

bit_on : (n k : ℕ) → has_bit n k ≡ true → bit_at n k ≡ 1
bit_on n k on = elim (eqb_tells (bit_at n k) 1) [
  | inl one ↦ one.1
  | inr other ↦ absurd (let off = other.0 in cc (on, off))
]

-- the bits of a mask within a word, where one is set that wasn't
module _ (mask k word : ℕ) (small : k < 32) (off : bit_at mask k ≡ 0) where
  others : (i : ℕ) → i ≢ k → bit_at (bit_and (with_bit w32 mask k true) word) i ≡ bit_at (bit_and mask word) i
  others i apart =
      bit_at_and (with_bit w32 mask k true) word i ∙ (ap (λ b. min b (bit_at word i)) (bit_at_set_other w32 mask k small i apart) ∙
      sym (bit_at_and mask word i))

  before : bit_at (bit_and mask word) k ≡ 0
  before = omega (arith, bit_at_and mask word k, off)

  after : bit_at (bit_and (with_bit w32 mask k true) word) k ≡ bit_at word k
  after = omega (arith, bit_at_and (with_bit w32 mask k true) word k, bit_at_set_same w32 mask k small, bit_at-lt word k)

  counts : (b : Bool) → has_bit word k ≡ b → count_ones (bit_and (with_bit w32 mask k true) word) ≡ count_ones (bit_and mask word) + one_if b
  counts true on = one_more k (bit_and mask word) (bit_and (with_bit w32 mask k true) word) others before (after ∙ bit_on word k on)
  counts false not_on =
      let same : bit_and (with_bit w32 mask k true) word ≡ bit_and mask word = same_from_bits (bit_and (with_bit w32 mask k true) word) (bit_and mask word)
      (λ i. elim (eqb_tells i k) [
        | inl here ↦
            ap (bit_at (bit_and (with_bit w32 mask k true) word)) here.1 ∙ (after ∙ (bit_off word k not_on ∙ (sym before ∙ sym
            (ap (bit_at (bit_and mask word)) here.1))))
        | inr there ↦ others i there.1
      ]) in
      let equal = ap count_ones same in
      omega (arith, equal)

-- ---- masks

bit_small : (input : Input) → input_bit input < 32
bit_small (ZoneInput place) = omega arith
bit_small (ManualInput place) = omega arith
bit_small (FaultInput place) = omega arith
bit_small (MarkerInput place) = omega arith

pub mask_with : (mask : Mask) (input : Input) (bit bits : ℕ) → bit ≡ input_bit input → mask.word ≡ input_word input → input_word input < 32 →
    has_bit mask.bits bit ≡ false → bits ≡ with_bit w32 mask.bits bit true → AddsInput input mask (record { word = mask.word; bits = bits })
mask_with mask input bit bits place same within off is readings =
    let word = slice_index_or readings.words (mask.word % 32) 0 in
    let here : mask.word % 32 ≡ input_word input = omega (arith, same, within) in
    let at : has_bit word bit ≡ has_bit (slice_index_or readings.words (input_word input) 0) (input_bit input) =
    ap (has_bit word) place ∙ ap (λ n. has_bit (slice_index_or readings.words n 0) (input_bit input)) here in
    let small : bit < 32 = omega (arith, place, bit_small input) in
    ap (λ n. count_ones (bit_and n word)) is ∙ (counts mask.bits bit word small (bit_off mask.bits bit off) (has_bit word bit) refl ∙
    ap (λ b. count_ones (bit_and mask.bits word) + one_if b) at)

pub mask_of_one : (input : Input) (word bit bits : ℕ) → word ≡ input_word input → word < 32 → bit ≡ input_bit input → bits ≡ with_bit w32 0 bit true
    → AddsInput input (no_mask input) (record { word = word; bits = bits })
mask_of_one input word bit bits here within place is =
    subst (λ w. AddsInput input (no_mask input) (record { word = w; bits = bits })) (sym here)
    (mask_with (no_mask input) input bit bits place refl (omega (arith, here, within)) (has_bit-zero bit) is)

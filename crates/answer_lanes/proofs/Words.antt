-- Four bytes in one word, bit by bit.
use Rattle.std.proofs.Common.{◌≡◌, ℕ, zero, suc, ◌+◌, ◌-◌, ◌*◌, ◌/◌, ◌%◌, ◌^◌, ◌<◌, ◌==◌, [], ◌∷◌, sym, ◌∙◌, ap, arith}
use Rattle.std.proofs.lemmas.Nat.{shr-shr}
use Rattle.std.proofs.lemmas.Nat.Bits.{bit_at_cat_low, bit_at_cat_high}
use Rattle.std.specs.Int.{bit_at, to_le_bytes, w32}
use Rattle.answer_lanes.specs.Words.{AreBitsOf}
use Rattle.answer_lanes.proofs.PlaceSets.{low_byte}

-- of two numbers in one, the bits of the upper one
upper : (high low k : ℕ) → low < 256 → bit_at (high * 256 + low) (8 + k) ≡ bit_at high k
upper high low k below =
    let less : 8 + k - 8 ≡ k = omega arith in
    bit_at_cat_high high 8 low (8 + k) below (omega arith) ∙ ap (bit_at high) less

pub bits_joined : (a b c d word : ℕ) → a < 256 → b < 256 → c < 256 → word ≡ a + b * 256 ^ 1 + c * 256 ^ 2 + d * 256 ^ 3
    → AreBitsOf (a ∷ b ∷ c ∷ d ∷ []) word
bits_joined a b c d word fa fb fc is = bits
  where
    nested : word ≡ ((d * 256 + c) * 256 + b) * 256 + a
    nested = is ∙ omega arith

    bits : AreBitsOf (a ∷ b ∷ c ∷ d ∷ []) word
    bits zero k below small =
        let at : 0 + k ≡ k = omega arith in
        ap (λ n. n == 1) (ap (bit_at word) at ∙ ap (λ n. bit_at n k) nested ∙ bit_at_cat_low ((d * 256 + c) * 256 + b) 8 a k small)
    bits (suc zero) k below small =
        ap (λ n. n == 1) (ap (λ n. bit_at n (8 + k)) nested ∙ upper ((d * 256 + c) * 256 + b) a k fa ∙ bit_at_cat_low (d * 256 + c) 8 b k small)
    bits (suc (suc zero)) k below small =
        let at : 16 + k ≡ 8 + (8 + k) = omega arith in
        ap (λ n. n == 1)
        (ap (bit_at word) at ∙ ap (λ n. bit_at n (8 + (8 + k))) nested ∙ upper ((d * 256 + c) * 256 + b) a (8 + k) fa ∙ upper (d * 256 + c) b k fb
        ∙ bit_at_cat_low d 8 c k small)
    bits (suc (suc (suc zero))) k below small =
        let at : 24 + k ≡ 8 + (8 + (8 + k)) = omega arith in
        ap (λ n. n == 1)
        (ap (bit_at word) at ∙ ap (λ n. bit_at n (8 + (8 + (8 + k)))) nested ∙ upper ((d * 256 + c) * 256 + b) a (8 + (8 + k)) fa
        ∙ upper (d * 256 + c) b (8 + k) fb ∙ upper d c k fc)
    bits (suc (suc (suc (suc n)))) k below small = absurd (omega (arith, below))

-- a byte of a word
one_byte : (word place k : ℕ) → k < 8 → bit_at (word / 2 ^ place % 256) k ≡ bit_at word (place + k)
one_byte word place k small = low_byte (word / 2 ^ place) k small ∙ ap (λ n. n % 2) (shr-shr word place k)

pub bits_parted : (word : ℕ) → AreBitsOf (to_le_bytes w32 word) word
bits_parted word zero k below small = let at : 0 + k ≡ k = omega arith in ap (λ n. n == 1) (ap (bit_at word) at ∙ sym (low_byte word k small))
bits_parted word (suc zero) k below small = ap (λ n. n == 1) (sym (one_byte word 8 k small))
bits_parted word (suc (suc zero)) k below small = ap (λ n. n == 1) (sym (one_byte word 16 k small))
bits_parted word (suc (suc (suc zero))) k below small = ap (λ n. n == 1) (sym (one_byte word 24 k small))
bits_parted word (suc (suc (suc (suc n)))) k below small = absurd (omega (arith, below))

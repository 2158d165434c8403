-- Sets of places, kept as the bits of bytes.
use Rattle.std.proofs.Common.{◌≡◌, ⊎_elim, ℕ, ◌+◌, ◌-◌, ◌*◌, ◌/◌, ◌%◌, ◌^◌, ◌<◌, ◌==◌, Bool, sym, ◌∙◌, ap, arith}
use Rattle.std.proofs.Common.{List, length, replicate, slice_index}
use Rattle.std.proofs.lemmas.Bool.{cases_lt}
use Rattle.std.proofs.lemmas.List.{length-replicate, get_or-replicate}
use Rattle.std.proofs.lemmas.Nat.{shr-shr}
use Rattle.std.proofs.lemmas.Nat.Bits.{bit_at_cat_low, bit_at_cat_high}
use Rattle.std.specs.Int.{bit_at}
use Rattle.site_types.specs.Bits.{has_bit}
use Rattle.answer_lanes.specs.declared.place_set.PlaceSet.{PlaceSet}
use Rattle.answer_lanes.specs.Places.{HasFirst}

-- the low byte of a number has the number's first bits
pub low_byte : (n k : ℕ) → k < 8 → bit_at (n % 256) k ≡ bit_at n k
low_byte n k small =
    let parts : n / 256 * 2 ^ 8 + n % 256 ≡ n = omega arith in
    sym (bit_at_cat_low (n / 256) 8 (n % 256) k small) ∙ ap (λ m. bit_at m k) parts

-- eight bits from a place on lie in its byte and in the next one
pub eight_bits : (bytes : List ℕ) (first low high byte : ℕ) → low ≡ slice_index bytes (first / 8) → high ≡ slice_index bytes (first / 8 + 1)
    → low < 256 → byte ≡ (high * 256 + low) / 2 ^ (first % 8) % 256 → (k : ℕ) → k < 8
    → has_bit byte k ≡ has_bit (slice_index bytes ((first + k) / 8)) ((first + k) % 8)
eight_bits bytes first low high byte is_low is_high below is k small =
    let rest = first % 8 in
    let both = high * 2 ^ 8 + low in
    let shifted : bit_at byte k ≡ bit_at both (rest + k) =
    ap (λ n. bit_at n k) is ∙ low_byte (both / 2 ^ rest) k small ∙ ap (λ n. n % 2) (shr-shr both rest k) in
    ap (λ n. n == 1) (shifted ∙ ⊎_elim
    (λ here.
    let place : first / 8 ≡ (first + k) / 8 = omega (arith, here) in
    let bit : rest + k ≡ (first + k) % 8 = omega (arith, here) in
    bit_at_cat_low high 8 low (rest + k) here ∙ ap (λ n. bit_at n (rest + k)) (is_low ∙ ap (slice_index bytes) place)
    ∙ ap (bit_at (slice_index bytes ((first + k) / 8))) bit)
    (λ next.
    let place : first / 8 + 1 ≡ (first + k) / 8 = omega (arith, next, small) in
    let bit : rest + k - 8 ≡ (first + k) % 8 = omega (arith, next, small) in
    bit_at_cat_high high 8 low (rest + k) below next ∙ ap (λ n. bit_at n (rest + k - 8)) (is_high ∙ ap (slice_index bytes) place)
    ∙ ap (bit_at (slice_index bytes ((first + k) / 8))) bit)
    (cases_lt (rest + k) 8))

-- bytes that are all the same, of which each bit is set or none
pub has_first : (count byte : ℕ) (all : Bool) (places : PlaceSet) → places.bytes.items ≡ replicate (count / 8 + 2) byte
    → ((k : ℕ) → k < 8 → has_bit byte k ≡ all) → HasFirst count all places
has_first count byte all places is bits = record {
  room = let size = ap length is ∙ length-replicate (count / 8 + 2) byte in omega (arith, size);
  is = λ place small.
      ap (λ n. has_bit n (place % 8))
      (ap (λ xs. slice_index xs (place / 8)) is ∙ get_or-replicate (count / 8 + 2) (place / 8) byte 0 (omega (arith, small)))
      ∙ bits (place % 8) (omega arith);
}

-- so many first bytes are cleared
pub record AreCleared (old bytes : List ℕ) (count : ℕ) : Type 0 where
  pub size : length bytes ≡ length old
  pub none : (k : ℕ) → k < count → slice_index bytes k ≡ 0

-- Facts and values that are put side by side, word by word.
use Rattle.std.proofs.Common.{◌≡◌, ◌≢◌, ◌≤◌, ◌<◌, ◌+◌, ◌/◌, ◌%◌, ◌&&◌, inl, inr, ℕ, Bool, true, false, List, length, length-set, refl, sym, ap, ◌∙◌, arith}
use Rattle.std.specs.Prelude.{nat_lt, slice_index_or, slice_set}
use Rattle.std.proofs.lemmas.Bool.{cases_lt}
use Rattle.std.proofs.lemmas.Bool.Decides.{eqb_tells, nat_tests}
use Rattle.std.proofs.lemmas.List.{get_or-set_same, get_or-set_other, get_or_past}
use Rattle.site_types.specs.Bits.{has_bit}
use Rattle.site_types.proofs.Masks.{has_bit-zero}

-- the first words of others stand among some words from a place on
abbrev pub AreCopied : ℕ → ℕ → List ℕ → List ℕ → Type 0
AreCopied count first from words = (k : ℕ) → k < count → slice_index_or words (first + k) 0 ≡ slice_index_or from k 0

pub record AreRead (count : ℕ) (zones manual values words : List ℕ) : Type 0 where
  pub size : length words ≡ 32
  pub first : AreCopied count 0 zones words
  pub next : AreCopied count 8 manual words
  pub last : AreCopied count 17 values words

copied_here : (count first at : ℕ) (from words : List ℕ) → at ≡ first + count → at < length words → AreCopied count first from words
    → AreCopied (count + 1) first from (slice_set words at (slice_index_or from count 0))
copied_here count first at from words there within are k less = elim (eqb_tells k count) [
  | inl here ↦
      ap (λ n. slice_index_or (slice_set words at (slice_index_or from count 0)) (first + n) 0) here.1 ∙
      (ap (λ n. slice_index_or (slice_set words at (slice_index_or from count 0)) n 0) (sym there) ∙
      (get_or-set_same words at (slice_index_or from count 0) 0 within ∙ sym (ap (λ n. slice_index_or from n 0) here.1)))
  | inr apart ↦ (let other = apart.1 in
      get_or-set_other words at (first + k) (slice_index_or from count 0) 0 (λ e. other (omega (arith, e, there)))
      ∙ are k (omega (arith, less, other)))
]

copied_beside : (count first at value : ℕ) (from words : List ℕ) → ((k : ℕ) → k < count → first + k ≢ at) → AreCopied count first from words
    → AreCopied count first from (slice_set words at value)
copied_beside count first at value from words apart are k less = get_or-set_other words at (first + k) value 0 (apart k less) ∙ are k less

pub read_none : (zones manual values words : List ℕ) → length words ≡ 32 → AreRead 0 zones manual values words
read_none zones manual values words size = record {
  size = size;
  first = λ k less. absurd (omega (arith, less));
  next = λ k less. absurd (omega (arith, less));
  last = λ k less. absurd (omega (arith, less));
}

-- the words of one more place
pub read_more : (count : ℕ) (zones manual values words : List ℕ) → count < 8 → AreRead count zones manual values words →
    AreRead (count + 1) zones manual values
    (slice_set (slice_set (slice_set words count (slice_index_or zones count 0)) (8 + count) (slice_index_or manual count 0)) (17 + count)
    (slice_index_or values count 0))
read_more count zones manual values words less are = record {
  size = length-set with_next (17 + count) (slice_index_or values count 0) ∙ next_size;
  first = copied_beside (count + 1) 0 (17 + count) (slice_index_or values count 0) zones with_next (λ k low e. omega (arith, less, low, e))
      (copied_beside (count + 1) 0 (8 + count) (slice_index_or manual count 0) zones with_first (λ k low e. omega (arith, less, low, e))
      (copied_here count 0 count zones words (omega arith) (let s = are.size in omega (arith, s, less)) are.first));
  next = copied_beside (count + 1) 8 (17 + count) (slice_index_or values count 0) manual with_next (λ k low e. omega (arith, less, low, e))
      (copied_here count 8 (8 + count) manual with_first refl (let s = first_size in omega (arith, s, less))
      (copied_beside count 8 count (slice_index_or zones count 0) manual words (λ k low e. omega (arith, less, low, e)) are.next));
  last = copied_here count 17 (17 + count) values with_next refl (let s = next_size in omega (arith, s, less))
      (copied_beside count 17 (8 + count) (slice_index_or manual count 0) values with_first (λ k low e. omega (arith, less, low, e))
      (copied_beside count 17 count (slice_index_or zones count 0) values words (λ k low e. omega (arith, less, low, e)) are.last));
}
  where
    with_first : List ℕ
    with_first = slice_set words count (slice_index_or zones count 0)

    with_next : List ℕ
    with_next = slice_set with_first (8 + count) (slice_index_or manual count 0)

    first_size : length with_first ≡ 32
    first_size = length-set words count (slice_index_or zones count 0) ∙ are.size

    next_size : length with_next ≡ 32
    next_size = length-set with_first (8 + count) (slice_index_or manual count 0) ∙ first_size

-- a marker's bit among words of which the last eight are those of values
pub value_there : (values words : List ℕ) → length values ≡ 8 → AreCopied 8 17 values words → (m : ℕ)
    → (nat_lt m 256 && has_bit (slice_index_or words (17 + m / 32) 0) (m % 32)) ≡ has_bit (slice_index_or values (m / 32) 0) (m % 32)
value_there values words size are m = elim (cases_lt m 256) [
  | inl within ↦ (
      let low : m / 32 < 8 = omega (arith, within) in
      within_it (nat_lt m 256) (has_bit (slice_index_or words (17 + m / 32) 0) (m % 32)) (grind (arith, nat_tests, within))
      ∙ ap (λ w. has_bit w (m % 32)) (are (m / 32) low))
  | inr past ↦ (
      let far : 8 ≤ m / 32 = omega (arith, past) in
      past_it (nat_lt m 256) (has_bit (slice_index_or words (17 + m / 32) 0) (m % 32)) (grind (arith, nat_tests, past))
      ∙ sym (ap (λ w. has_bit w (m % 32)) (get_or_past values (m / 32) 0 (omega (arith, size, far))) ∙ has_bit-zero (m % 32)))
]
  where
    within_it : (a b : Bool) → a ≡ true → (a && b) ≡ b
    within_it true b e = refl
    within_it false b e = cc

    past_it : (a b : Bool) → a ≡ false → (a && b) ≡ false
    past_it true b e = cc
    past_it false b e = refl

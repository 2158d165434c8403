-- Values that are joined word by word.
use Rattle.std.proofs.Common.{◌≡◌, ◌≤◌, ◌<◌, ◌+◌, ◌/◌, ◌%◌, ◌||◌, inl, inr, ℕ, Bool, true, false, List, length, length-set, refl, sym, ap, ◌∙◌, arith}
use Rattle.std.specs.Prelude.{slice_index_or, slice_set}
use Rattle.std.specs.Int.Bits.{bit_or}
use Rattle.std.proofs.lemmas.Bool.{cases_lt}
use Rattle.std.proofs.lemmas.Bool.Decides.{eqb_tells}
use Rattle.std.proofs.lemmas.List.{get_or-set_same, get_or-set_other, get_or_past}
use Rattle.site_types.specs.Bits.{has_bit}
use Rattle.site_types.proofs.Masks.{has_bit-or, has_bit-zero}

-- the words below a place are joined, and the others are as they were
pub record AreJoinedBelow (place : ℕ) (old other new : List ℕ) : Type 0 where
  pub size : length new ≡ 8
  pub below : (w : ℕ) → w < place → slice_index_or new w 0 ≡ bit_or (slice_index_or old w 0) (slice_index_or other w 0)
  pub past : (w : ℕ) → place ≤ w → slice_index_or new w 0 ≡ slice_index_or old w 0

pub joined_none : (old other : List ℕ) → length old ≡ 8 → AreJoinedBelow 0 old other old
joined_none old other size = record {
  size = size;
  below = λ w less. absurd (omega (arith, less));
  past = λ w past. refl;
}

pub joined_more : (place : ℕ) (old other new : List ℕ) → place < 8 → AreJoinedBelow place old other new →
    AreJoinedBelow (place + 1) old other (slice_set new place (bit_or (slice_index_or new place 0) (slice_index_or other place 0)))
joined_more place old other new less is = record {
  size = length-set new place word ∙ is.size;
  below = λ w within. elim (eqb_tells w place) [
    | inl here ↦ (let there : place < length new = omega (arith, less, is.size) in
        ap (λ n. slice_index_or (slice_set new place word) n 0) here.1 ∙ (get_or-set_same new place word 0 there ∙
        (ap (λ a. bit_or a (slice_index_or other place 0)) (is.past place (omega arith)) ∙
        sym (ap (λ n. bit_or (slice_index_or old n 0) (slice_index_or other n 0)) here.1))))
    | inr apart ↦ (let other_place = apart.1 in get_or-set_other new place w word 0 apart.1 ∙ is.below w (omega (arith, within, other_place)))
  ];
  past = λ w far. get_or-set_other new place w word 0 (λ e. omega (arith, e, far)) ∙ is.past w (omega (arith, far));
}
  where
    word : ℕ
    word = bit_or (slice_index_or new place 0) (slice_index_or other place 0)

pub joined_all : (place : ℕ) (old other new : List ℕ) → length other ≡ 8 → place ≡ 8 → AreJoinedBelow place old other new → (m : ℕ)
    → has_bit (slice_index_or new (m / 32) 0) (m % 32)
    ≡ (has_bit (slice_index_or old (m / 32) 0) (m % 32) || has_bit (slice_index_or other (m / 32) 0) (m % 32))
joined_all place old other new size whole is m = elim (cases_lt (m / 32) place) [
  | inl below ↦ (ap (λ n. has_bit n (m % 32)) (is.below (m / 32) below) ∙
      has_bit-or (slice_index_or old (m / 32) 0) (slice_index_or other (m / 32) 0) (m % 32))
  | inr past ↦ (
      let none : has_bit (slice_index_or other (m / 32) 0) (m % 32) ≡ false =
      ap (λ n. has_bit n (m % 32)) (get_or_past other (m / 32) 0 (omega (arith, size, whole, past))) ∙ has_bit-zero (m % 32) in
      ap (λ n. has_bit n (m % 32)) (is.past (m / 32) past) ∙
      same (has_bit (slice_index_or old (m / 32) 0) (m % 32)) (has_bit (slice_index_or other (m / 32) 0) (m % 32)) none)
]
  where
    same : (a b : Bool) → b ≡ false → a ≡ (a || b)
    same true b e = refl
    same false b e = sym e

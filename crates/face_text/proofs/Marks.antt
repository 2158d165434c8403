-- Numbers in pairs of masks, and what two pairs of the same group tell.
use Rattle.std.proofs.Common.{◌≡◌, ◌≢◌, ◌∙◌, ℕ, zero, suc, ◌+◌, ◌-◌, ◌<◌, ◌≤◌, List, [], ◌∷◌, Bool, true, false, sym, ap, arith}
use Rattle.std.specs.Prelude.{slice_index}
use Rattle.std.specs.Int.Bits.{bit_xor}
use Rattle.site_types.specs.Bits.{bit_of, half_of, has_bit}
use Rattle.face_text.specs.declared.group.Group.{Group}
use Rattle.face_text.specs.Slots.{last_of}
use Rattle.face_text.proofs.Pages.{last_small}
use Rattle.face_text.proofs.SameBits.{other_bit, same_bit}

-- whether a number stands in a pair of masks
abbrev pub marked : List ℕ → ℕ → Bool
marked masks number = has_bit (slice_index masks (half_of number)) (bit_of number)

pub low_marked : (masks : List ℕ) (number : ℕ) → 1 ≤ number → number ≤ 96 → marked masks number ≡ has_bit (slice_index masks 0) (number - 1)
low_marked masks number low high =
    let half : half_of number ≡ 0 = omega (arith, low, high) in
    let bit : bit_of number ≡ number - 1 = omega (arith, low, high) in
    ap (λ h. has_bit (slice_index masks h) (bit_of number)) half ∙ ap (has_bit (slice_index masks 0)) bit

pub high_marked : (masks : List ℕ) (number : ℕ) → 97 ≤ number → number ≤ 192 → marked masks number ≡ has_bit (slice_index masks 1) (number - 97)
high_marked masks number low high =
    let half : half_of number ≡ 1 = omega (arith, low, high) in
    let bit : bit_of number ≡ number - 97 = omega (arith, low, high) in
    ap (λ h. has_bit (slice_index masks h) (bit_of number)) half ∙ ap (has_bit (slice_index masks 1)) bit

pub low_none : (masks : List ℕ) (from bit : ℕ) → 1 ≤ from → bit ≤ 96
    → ((k : ℕ) → from - 1 ≤ k → k < bit → has_bit (slice_index masks 0) k ≡ false) → (n : ℕ) → from ≤ n → n ≤ bit → marked masks n ≡ false
low_none masks from bit some small none n low high =
    low_marked masks n (omega (arith, some, low)) (omega (arith, small, high)) ∙ none (n - 1) (omega (arith, some, low)) (omega (arith, some, low, high))

pub high_none : (masks : List ℕ) (from bit : ℕ) → bit ≤ 96 → ((k : ℕ) → from ≤ k → k < bit → has_bit (slice_index masks 1) k ≡ false)
    → (n : ℕ) → from + 97 ≤ n → n < bit + 97 → marked masks n ≡ false
high_none masks from bit small none n low high =
    high_marked masks n (omega (arith, low)) (omega (arith, small, high)) ∙ none (n - 97) (omega (arith, low)) (omega (arith, low, high))

pub low_some : (masks : List ℕ) (bit : ℕ) → bit < 96 → has_bit (slice_index masks 0) bit ≡ true → marked masks (bit + 1) ≡ true
low_some masks bit small set =
    let place : (bit + 1) - 1 ≡ bit = omega arith in
    low_marked masks (bit + 1) (omega arith) (omega (arith, small)) ∙ ap (has_bit (slice_index masks 0)) place ∙ set

pub high_some : (masks : List ℕ) (bit : ℕ) → bit < 96 → has_bit (slice_index masks 1) bit ≡ true → marked masks (bit + 97) ≡ true
high_some masks bit small set =
    let place : (bit + 97) - 97 ≡ bit = omega arith in
    high_marked masks (bit + 97) (omega arith) (omega (arith, small)) ∙ ap (has_bit (slice_index masks 1)) place ∙ set

-- the numbers that stand in one of two pairs alone
abbrev pub changed_of : List ℕ → List ℕ → List ℕ
changed_of one other =
    bit_xor (slice_index one 0) (slice_index other 0) ∷ bit_xor (slice_index one 1) (slice_index other 1) ∷ []

same_in : (one other : List ℕ) (half bit : ℕ) → half < 2 → has_bit (slice_index (changed_of one other) half) bit ≡ false
    → has_bit (slice_index one half) bit ≡ has_bit (slice_index other half) bit
same_in one other zero bit small clear = same_bit (slice_index one 0) (slice_index other 0) bit clear
same_in one other (suc zero) bit small clear = same_bit (slice_index one 1) (slice_index other 1) bit clear
same_in one other (suc (suc half)) bit small clear = absurd (omega (arith, small))

other_in : (one other : List ℕ) (half bit : ℕ) → half < 2 → has_bit (slice_index (changed_of one other) half) bit ≡ true
    → has_bit (slice_index one half) bit ≢ has_bit (slice_index other half) bit
other_in one other zero bit small set = other_bit (slice_index one 0) (slice_index other 0) bit set
other_in one other (suc zero) bit small set = other_bit (slice_index one 1) (slice_index other 1) bit set
other_in one other (suc (suc half)) bit small set = absurd (omega (arith, small))

-- of two pairs of masks in which numbers stand as two tests tell
module _ (group : Group) (before after : ℕ → Bool) (one other marks : List ℕ) (marks_are : marks ≡ changed_of one other)
    (one_is : (n : ℕ) → 1 ≤ n → n ≤ last_of group → marked one n ≡ before n) (other_is : (n : ℕ) → 1 ≤ n → n ≤ last_of group → marked other n ≡ after n) where
  pub unmarked_same : (n : ℕ) → 1 ≤ n → n ≤ last_of group → marked marks n ≡ false → before n ≡ after n
  unmarked_same n low high clear =
      let small : half_of n < 2 = omega (arith, low, high, last_small group) in
      sym (one_is n low high)
      ∙ same_in one other (half_of n) (bit_of n) small (sym (ap (λ ms. marked ms n) marks_are) ∙ clear)
      ∙ other_is n low high

  pub marked_other : (n : ℕ) → 1 ≤ n → n ≤ last_of group → marked marks n ≡ true → before n ≢ after n
  marked_other n low high set same =
      let small : half_of n < 2 = omega (arith, low, high, last_small group) in
      other_in one other (half_of n) (bit_of n) small (sym (ap (λ ms. marked ms n) marks_are) ∙ set)
      (one_is n low high ∙ same ∙ sym (other_is n low high))

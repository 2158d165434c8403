-- The first places of a set as a list, and what it tells of a run's points.
use Rattle.std.proofs.Common.{◌≡◌, ◌≢◌, [], ◌+◌, ◌<◌, ◌≤◌, ℕ, Bool, List, Some, min, ◌*◌, slice_index, ◌==◌, slice_get, true, false, inl, inr, refl, sym, ◌∙◌, ap, arith}
use mathlib.Core.Bool.{beq}
use Rattle.std.specs.Int.{bit_at}
use Rattle.std.specs.Int.Bits.{bit_xor}
use Rattle.std.proofs.lemmas.Bool.{cases_eq}
use Rattle.std.proofs.lemmas.Bool.Decides.{eqb_tells}
use Rattle.std.proofs.lemmas.Nat.Bits.{bit_at_xor, bit_at-lt}
use Rattle.std.proofs.lemmas.List.FromFn.{get_or-map-range_with_len, length-map-range_with_len}
use Rattle.std.proofs.lemmas.Option.{get_or_from_slice_get, slice_get_within}
use Rattle.circular_buffer.proofs.Places.{slice_get-some}
use Rattle.site_types.specs.Bits.{has_bit}
use Rattle.answer_lanes.specs.declared.finding_group.FindingGroup.{FindingGroup}
use Rattle.answer_lanes.specs.declared.place_set.PlaceSet.{PlaceSet}
use Rattle.answer_lanes.specs.declared.run.Run.{Run}
use Rattle.answer_lanes.specs.Places.{AreEight, HasFirst, SetsPlace, has_place}
use Rattle.answer_lanes.specs.Points.{finding_at}
use Rattle.answer_lanes.specs.declared.finding_block.FindingBlock.{FindingBlock}
use Rattle.answer_lanes.specs.Blocks.{eight_found}
use Rattle.answer_lanes.specs.Words.{AreBitsOf, AreEights}
use Rattle.panel_conditions.specs.Told.{AreTold, AreToldInBlock, AreToldInEight, HaveEights, MarksTold, TellMissing, are_places, group_run}

-- what stands in the list
pub place_in : (set : PlaceSet) (n k : ℕ) (b : Bool) → slice_get (are_places set n) k ≡ Some b → (k < n) × (has_place set k ≡ b)
place_in set n k b at =
    let within = slice_get_within (are_places set n) k b at in
    let size = length-map-range_with_len (has_place set) 0 n in
    let small : k < n = omega (arith, within, size) in (
      small,
      sym (get_or-map-range_with_len (has_place set) 0 n k k false small (omega arith)) ∙ get_or_from_slice_get (are_places set n) k b false at,
    )

pub place_at : (set : PlaceSet) (n k : ℕ) → k < n → slice_get (are_places set n) k ≡ Some (has_place set k)
place_at set n k small =
    let some = slice_get-some (are_places set n) k (let size = length-map-range_with_len (has_place set) 0 n in omega (arith, small, size)) in
    some.1 ∙ ap Some (sym (place_in set n k some.0 some.1).1)

-- none of the first ones is marked
pub none_told : (set : PlaceSet) (count n : ℕ) → n ≤ count → HasFirst count false set → TellMissing [] (are_places set n)
none_told set count n few none place b at =
    let is = place_in set n place b at in
    sym is.1 ∙ none.is place (let small = is.0 in omega (arith, small, few))

-- one mark is set
pub marked : (before after : PlaceSet) (n place : ℕ) (missing : Bool) → SetsPlace place missing before after
    → MarksTold place missing (are_places before n) (are_places after n)
marked before after n place missing sets k b at =
    let is = place_in after n k b at in
    elim (cases_eq k place) [
      | inl here ↦ inl (here, sym sets.this ∙ ap (has_place after) (sym here) ∙ is.1)
      | inr other ↦ inr (other, place_at before n k is.0 ∙ ap Some (sym (sets.others k other) ∙ is.1))
    ]

-- none is, past the end
pub unmarked : (set : PlaceSet) (n place : ℕ) (missing : Bool) → n ≤ place → MarksTold place missing (are_places set n) (are_places set n)
unmarked set n place missing past k b at = let small = (place_in set n k b at).0 in inr (λ e. omega (arith, small, past, e), at)

-- a run tells of its points what eight bits do
pub told_in : (set : PlaceSet) (n bits : ℕ) (run : Run FindingGroup) → run.taken + run.count ≤ 8 → n ≤ 65536
    → run.first.point + (run.taken + run.count) ≤ n → AreEight set run.first.point bits
    → ((place : ℕ) → run.taken ≤ place → place < run.taken + run.count → has_bit bits place ≡ has_bit run.first.missing place)
    → AreTold (are_places set n) run
told_in set n bits run eight most within are same place from below =
    let at : (finding_at run.first place).point ≡ run.first.point + place =
    (let here : min (run.first.point + place) 65535 ≡ run.first.point + place = omega (arith, most, within, below) in here) in
    ap (slice_get (are_places set n)) at
    ∙ place_at set n (run.first.point + place) (omega (arith, within, below))
    ∙ ap Some (sym (are place (omega (arith, eight, below))) ∙ same place from below)

-- a block tells of its points what a word does
pub block_told : (set : PlaceSet) (n word own : ℕ) (block : FindingBlock) → n ≤ 65536 → HaveEights n block.firsts → AreEights set block.firsts word
    → AreBitsOf block.missing own → word ≡ own → AreToldInBlock (are_places set n) block
block_told set n word own block most within eights bits same = (eight 0 (omega arith), eight 1 (omega arith), eight 2 (omega arith), eight 3 (omega arith))
  where
    eight : (number : ℕ) → number < 4 → AreToldInEight (are_places set n) block number
    eight number less =
        told_in set n (slice_index block.missing number) (group_run (eight_found block number).group) (omega arith) most (within number less)
        (λ k small. sym (bits number k less small) ∙ ap (λ w. has_bit w (8 * number + k)) (sym same) ∙ eights number k less small)
        (λ place from below. refl)

-- ---- bits that are the same

pub truth : (a b : Bool) → beq a b ≡ true → a ≡ b
truth true true e = refl
truth false false e = refl
truth true false e = absurd (cc)
truth false true e = absurd (cc)

-- two masks that differ in no bit of some have the same there
pub same_bit : (a b k : ℕ) → has_bit (bit_xor a b) k ≡ false → has_bit a k ≡ has_bit b k
same_bit a b k none =
    let at = bit_at_xor a b k in
    let low = bit_at-lt a k in
    let high = bit_at-lt b k in
    let even : bit_at (bit_xor a b) k ≢ 1 = elim (eqb_tells (bit_at (bit_xor a b) k) 1) [ inl same ↦ absurd (cc) | inr far ↦ far.1 ] in
    let same : bit_at a k ≡ bit_at b k = omega (arith, at, low, high, even) in
    ap (λ n. n == 1) same

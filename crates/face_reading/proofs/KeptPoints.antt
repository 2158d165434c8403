-- Sets of points that hold only points that a site has.
use Rattle.std.proofs.Common.{inl, inr, ◌⊎◌, ◌≡◌, ◌≢◌, ◌≤◌, ◌<◌, ◌+◌, ◌-◌, ◌^◌, ◌&&◌, ◌==◌, ℕ, zero, suc, Bool, true}
use Rattle.std.proofs.Common.{false, List, [], ◌∷◌, length, get_or, set, map, refl, sym, ◌∙◌, ap, subst, arith}
use Rattle.std.proofs.Common.{length-set, get_or-set_same, get_or-set_other}
use Rattle.std.specs.Int.{w128}
use Rattle.std.specs.List.{range_with_len}
use Rattle.std.proofs.lemmas.List.{get_or-replicate}
use Rattle.std.proofs.lemmas.Bool.{cases_lt}
use Rattle.std.proofs.lemmas.Bool.Decides.{eqb_tells}
use Rattle.site_types.specs.declared.point_set.PointSet.{PointSet}
use Rattle.site_types.specs.Bits.{IsPlace, bit_of, half_of, has_bit, has_point, mask_of, no_set, with_bit, with_point}
use Rattle.site_types.proofs.ChangedBits.{half_small, set-other}
use Rattle.site_types.proofs.Masks.{has_bit-mask, has_bit-zero, mask_below, mask_from_bits}
use Rattle.face_reading.proofs.KeptMasks.{at_number, by_number, with_bit_below}
use Rattle.face_reading.proofs.ChangedSlots.{HasHalves}

-- the two numbers of a loop
abbrev pub loop_of : PointSet → ℕ → List ℕ
loop_of points line = get_or points.loops (line - 1) []

pair_of : (xs : List ℕ) → length xs ≡ 2 → xs ≡ get_or xs 0 0 ∷ get_or xs 1 0 ∷ []
pair_of [] size = absurd (omega (arith, size))
pair_of (x ∷ []) size = absurd (omega (arith, size))
pair_of (x ∷ y ∷ []) size = refl
pair_of (x ∷ y ∷ z ∷ rest) size = absurd (omega (arith, size))

point_bit : (points : PointSet) (line address half bit : ℕ) → half_of address ≡ half → bit_of address ≡ bit
    → has_bit (get_or (loop_of points line) half 0) bit ≡ has_point points line address
point_bit points line address half bit h b =
    ap (λ i. has_bit (get_or (loop_of points line) i 0) bit) (sym h) ∙ ap (λ j. has_bit (get_or (loop_of points line) (half_of address) 0) j) (sym b)

low_half : (k : ℕ) → k < 96 → half_of (1 + k) ≡ 0
low_half k small = omega (arith, small)

low_bit : (k : ℕ) → k < 96 → bit_of (1 + k) ≡ k
low_bit k small = omega (arith, small)

high_half : (k : ℕ) → k < 96 → half_of (97 + k) ≡ 1
high_half k small = omega (arith, small)

high_bit : (k : ℕ) → k < 96 → bit_of (97 + k) ≡ k
high_bit k small = omega (arith, small)

and_false : (b : Bool) → (b && false) ≡ false
and_false true = refl
and_false false = refl

module _ (named : ℕ → ℕ → Bool) where
  -- half a loop, and a loop, of the points that have a name
  abbrev pub half_kept : PointSet → ℕ → ℕ → ℕ
  half_kept points line first = mask_of 96 (λ k. named line (first + k) && has_point points line (first + k))

  abbrev pub loop_kept : PointSet → ℕ → List ℕ
  loop_kept points line = half_kept points line 1 ∷ half_kept points line 97 ∷ []

  -- a set that has only points with a name
  pub record HoldsNamed (points : PointSet) : Type 0 where
    pub sizes : HasHalves points
    pub below : (line half : ℕ) → 1 ≤ line → line ≤ 4 → half < 2 → get_or (loop_of points line) half 0 < 2 ^ 96
    pub only : (line address : ℕ) → IsPlace line address → has_point points line address ≡ (named line address && has_point points line address)

  -- ---- from the numbers

  half_below : (points : PointSet) (line half : ℕ) → loop_of points line ≡ loop_kept points line → half < 2
      → get_or (loop_of points line) half 0 < 2 ^ 96
  half_below points line zero is small = rw is (mask_below 96 (λ k. named line (1 + k) && has_point points line (1 + k)))
  half_below points line (suc zero) is small = rw is (mask_below 96 (λ k. named line (97 + k) && has_point points line (97 + k)))
  half_below points line (suc (suc half)) is small = absurd (omega (arith, small))

  only_low : (points : PointSet) (line k : ℕ) → loop_of points line ≡ loop_kept points line → k < 96
      → has_point points line (1 + k) ≡ (named line (1 + k) && has_point points line (1 + k))
  only_low points line k is small =
      sym (point_bit points line (1 + k) 0 k (low_half k small) (low_bit k small)) ∙ ap (λ l. has_bit (get_or l 0 0) k) is
      ∙ has_bit-mask 96 (λ i. named line (1 + i) && has_point points line (1 + i)) k small

  only_high : (points : PointSet) (line k : ℕ) → loop_of points line ≡ loop_kept points line → k < 96
      → has_point points line (97 + k) ≡ (named line (97 + k) && has_point points line (97 + k))
  only_high points line k is small =
      sym (point_bit points line (97 + k) 1 k (high_half k small) (high_bit k small)) ∙ ap (λ l. has_bit (get_or l 1 0) k) is
      ∙ has_bit-mask 96 (λ i. named line (97 + i) && has_point points line (97 + i)) k small

  only_at : (points : PointSet) (line address : ℕ) → loop_of points line ≡ loop_kept points line → 1 ≤ address → address ≤ 192
      → (address ≤ 96) ⊎ (96 < address) →
      has_point points line address ≡ (named line address && has_point points line address)
  only_at points line address is one most (inl low) =
      let same : 1 + (address - 1) ≡ address = omega (arith, one) in
      subst (λ a. has_point points line a ≡ (named line a && has_point points line a)) same
      (only_low points line (address - 1) is (omega (arith, low, one)))
  only_at points line address is one most (inr high) =
      let same : 97 + (address - 97) ≡ address = omega (arith, high) in
      subst (λ a. has_point points line a ≡ (named line a && has_point points line a)) same
      (only_high points line (address - 97) is (omega (arith, high, most)))

  low_or_high : (address : ℕ) → (address ≤ 96) ⊎ (96 < address)
  low_or_high address = elim (cases_lt 96 address) [
    | inl h ↦ inr h
    | inr h ↦ inl h
  ]

  pub holds_named : (points : PointSet) → points.loops ≡ map (loop_kept points) (range_with_len 1 4) → HoldsNamed points
  holds_named points is =
      let at = at_number [] points.loops (loop_kept points) 4 is in
      record {
        sizes = record {
          loops = ap length is;
          halves = λ line low high. ap length (at line low high);
        };
        below = λ line half low high small. half_below points line half (at line low high) small;
        only = λ line address place. only_at points line address (at line place.0 place.1) place.2 place.3 (low_or_high address);
      }

  -- ---- to the numbers

  pub loops_kept : (points : PointSet) → HoldsNamed points → points.loops ≡ map (loop_kept points) (range_with_len 1 4)
  loops_kept points holds = by_number [] points.loops (loop_kept points) 4 holds.sizes.loops each
    where
      low : (line : ℕ) → 1 ≤ line → line ≤ 4 → get_or (loop_of points line) 0 0 ≡ half_kept points line 1
      low line from upto =
          mask_from_bits 96 (get_or (loop_of points line) 0 0) (λ k. named line (1 + k) && has_point points line (1 + k))
          (holds.below line 0 from upto (omega arith))
          (λ k small. point_bit points line (1 + k) 0 k (low_half k small) (low_bit k small) ∙ holds.only line (1 + k) (
            from,
            upto,
            omega arith,
            omega (arith, small),
          ))

      high : (line : ℕ) → 1 ≤ line → line ≤ 4 → get_or (loop_of points line) 1 0 ≡ half_kept points line 97
      high line from upto =
          mask_from_bits 96 (get_or (loop_of points line) 1 0) (λ k. named line (97 + k) && has_point points line (97 + k))
          (holds.below line 1 from upto (omega arith))
          (λ k small. point_bit points line (97 + k) 1 k (high_half k small) (high_bit k small) ∙ holds.only line (97 + k) (
            from,
            upto,
            omega arith,
            omega (arith, small),
          ))

      each : (line : ℕ) → 1 ≤ line → line ≤ 4 → loop_of points line ≡ loop_kept points line
      each line from upto =
          pair_of (loop_of points line) (holds.sizes.halves line from upto) ∙ ap (λ x. x ∷ get_or (loop_of points line) 1 0 ∷ []) (low line from upto)
          ∙ ap (λ y. half_kept points line 1 ∷ y ∷ []) (high line from upto)

  -- ---- no point

  none_at : (line half : ℕ) → 1 ≤ line → line ≤ 4 → half < 2 → get_or (loop_of no_set line) half 0 ≡ 0
  none_at line half low high small =
      ap (λ l. get_or l half 0) (get_or-replicate 4 (line - 1) (0 ∷ 0 ∷ []) [] (omega (arith, low, high))) ∙ get_or-replicate 2 half 0 0 small

  pub holds_none : HoldsNamed no_set
  holds_none =
      record {
        sizes = record {
          loops = refl;
          halves = λ line low high. ap length (get_or-replicate 4 (line - 1) (0 ∷ 0 ∷ []) [] (omega (arith, low, high)));
        };
        below = λ line half low high small. rw (none_at line half low high small) (omega arith);
        only = λ line address place.
            let none =
            ap (λ m. has_bit m (bit_of address)) (none_at line (half_of address) place.0 place.1 (half_small address place.3)) ∙ has_bit-zero
            (bit_of address) in
            none ∙ sym (ap (λ b. named line address && b) none ∙ and_false (named line address));
      }

  -- ---- one point put in or taken out

  pub holds_told : (points : PointSet) (line address : ℕ) (on : Bool) → HoldsNamed points → IsPlace line address → named line address ≡ true
      → HoldsNamed (with_point points line address on)
  holds_told points line address on holds place is =
      record {
        sizes = record {
          loops = length-set points.loops (line - 1) (set (loop_of points line) (half_of address) bit) ∙ holds.sizes.loops;
          halves = λ other low high. length_at other low high (eqb_tells (other - 1) (line - 1));
        };
        below = λ other half low high small. below_at other half low high small (eqb_tells (other - 1) (line - 1)) (eqb_tells half (half_of address));
        only = λ other a there. only_one other a there (eqb_tells other line) (eqb_tells a address);
      }
    where
      bit : ℕ
      bit = with_bit w128 (get_or (loop_of points line) (half_of address) 0) (bit_of address) on

      written : get_or (with_point points line address on).loops (line - 1) [] ≡ set (loop_of points line) (half_of address) bit
      written = get_or-set_same points.loops (line - 1) (set (loop_of points line) (half_of address) bit) [] (let size = holds.sizes.loops in
          omega (arith, size, place.0, place.1))

      left : (i : ℕ) → i ≢ line - 1 → get_or (with_point points line address on).loops i [] ≡ get_or points.loops i []
      left i apart = get_or-set_other points.loops (line - 1) i (set (loop_of points line) (half_of address) bit) [] apart

      length_at : (other : ℕ) → 1 ≤ other → other ≤ 4 → (((other - 1 == line - 1) ≡ true) × (other - 1 ≡ line - 1))
          ⊎ (((other - 1 == line - 1) ≡ false) × (other - 1 ≢ line - 1)) →
          length (get_or (with_point points line address on).loops (other - 1) []) ≡ 2
      length_at other low high (inl same) =
          ap (λ i. length (get_or (with_point points line address on).loops i [])) same.1 ∙ ap length written ∙ length-set (loop_of points line)
          (half_of address) bit
          ∙ holds.sizes.halves line place.0 place.1
      length_at other low high (inr apart) = ap length (left (other - 1) apart.1) ∙ holds.sizes.halves other low high

      below_at : (other half : ℕ) → 1 ≤ other → other ≤ 4 → half < 2 → (((other - 1 == line - 1) ≡ true) × (other - 1 ≡ line - 1))
          ⊎ (((other - 1 == line - 1) ≡ false) × (other - 1 ≢ line - 1)) →
          (((half == half_of address) ≡ true) × (half ≡ half_of address)) ⊎ (((half == half_of address) ≡ false) × (half ≢ half_of address)) →
          get_or (get_or (with_point points line address on).loops (other - 1) []) half 0 < 2 ^ 96
      below_at other half low high small (inl same) (inl here) =
          let two = holds.sizes.halves line place.0 place.1 in
          let room : half_of address < length (loop_of points line) = omega (arith, two, half_small address place.3) in
          let e : get_or (get_or (with_point points line address on).loops (other - 1) []) half 0 ≡ bit =
          ap (λ i. get_or (get_or (with_point points line address on).loops i []) half 0) same.1 ∙ ap (λ l. get_or l half 0) written ∙ ap
          (λ h. get_or (set (loop_of points line) (half_of address) bit) h 0) here.1
          ∙ get_or-set_same (loop_of points line) (half_of address) bit 0 room in
          subst (λ m. m < 2 ^ 96) (sym e) (with_bit_below w128 96 (get_or (loop_of points line) (half_of address) 0) (bit_of address) on (omega arith)
          (omega arith) (holds.below line (half_of address) place.0 place.1 (half_small address place.3)))
      below_at other half low high small (inl same) (inr apart) =
          let e : get_or (get_or (with_point points line address on).loops (other - 1) []) half 0 ≡ get_or (loop_of points line) half 0 =
          ap (λ i. get_or (get_or (with_point points line address on).loops i []) half 0) same.1 ∙ ap (λ l. get_or l half 0) written
          ∙ get_or-set_other (loop_of points line) (half_of address) half bit 0 apart.1 in
          subst (λ m. m < 2 ^ 96) (sym e) (holds.below line half place.0 place.1 small)
      below_at other half low high small (inr far) here =
          subst (λ m. m < 2 ^ 96) (sym (ap (λ l. get_or l half 0) (left (other - 1) far.1))) (holds.below other half low high small)

      as_before : (other a : ℕ) → IsPlace other a → (other ≡ line → a ≡ address → ⊥)
          → has_point (with_point points line address on) other a ≡ (named other a && has_point (with_point points line address on) other a)
      as_before other a there apart =
          let same = set-other points line address on holds.sizes.loops (holds.sizes.halves line place.0 place.1) place other a there apart in
          same ∙ holds.only other a there ∙ ap (λ b. named other a && b) (sym same)

      only_one : (other a : ℕ) → IsPlace other a → (((other == line) ≡ true) × (other ≡ line)) ⊎ (((other == line) ≡ false) × (other ≢ line))
          → (((a == address) ≡ true) × (a ≡ address)) ⊎ (((a == address) ≡ false) × (a ≢ address)) →
          has_point (with_point points line address on) other a ≡ (named other a && has_point (with_point points line address on) other a)
      only_one other a there (inl here) (inl same) =
          let this : named other a ≡ true = ap (λ l. named l a) here.1 ∙ ap (named line) same.1 ∙ is in
          sym (ap (λ b. b && has_point (with_point points line address on) other a) this)
      only_one other a there (inl here) (inr apart) = as_before other a there (λ e f. apart.1 f)
      only_one other a there (inr far) same = as_before other a there (λ e f. far.1 e)

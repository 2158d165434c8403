-- Masks that hold only bits of things that a site has, and lists of them by number.
use Rattle.std.proofs.Common.{inl, inr, ◌≡◌, ◌≢◌, ◌≤◌, ◌<◌, ◌+◌, ◌-◌, ◌*◌, ◌%◌, ◌^◌, ◌&&◌, ℕ, zero, suc, Bool, true}
use Rattle.std.proofs.Common.{false, List, ◌∷◌, length, get_or, map, refl, sym, ◌∙◌, ap, subst, arith, length-set}
use Rattle.std.proofs.Common.{get_or-set_same, get_or-set_other}
use Rattle.std.specs.Int.{Width, w32, bit_not}
use Rattle.std.specs.List.{range_with_len}
use mir.Val.{bits}
use Rattle.std.proofs.Math.Nat.{mod-eq_of_lt}
use Rattle.std.proofs.lemmas.Nat.{and_le_l, or_lt, pow_below}
use Rattle.std.proofs.lemmas.List.{ext_get_or}
use Rattle.std.proofs.lemmas.List.FromFn.{get_or-map-range_with_len, length-map-range_with_len}
use Rattle.std.proofs.lemmas.Bool.Decides.{eqb_tells}
use Rattle.site_types.specs.Bits.{has_bit, mask_of, with_bit}
use Rattle.site_types.proofs.Masks.{has_bit-mask, has_bit-zero, mask_below, mask_from_bits, with_bit-other}
use Rattle.face_reading.specs.Telling.{with_bit_of_panel}

pub less_one : (k : ℕ) → 1 + k - 1 ≡ k
less_one k = omega arith

-- ---- lists by number, from 1 on

pub at_number : {X : Type 0} (d : X) (xs : List X) (f : ℕ → X) (n : ℕ) → xs ≡ map f (range_with_len 1 n) → (number : ℕ) → 1 ≤ number → number ≤ n
    → get_or xs (number - 1) d ≡ f number
at_number d xs f n is number low high =
    ap (λ l. get_or l (number - 1) d) is ∙ get_or-map-range_with_len f 1 n (number - 1) number d (omega (arith, low, high)) (omega (arith, low))

pub by_number : {X : Type 0} (d : X) (xs : List X) (f : ℕ → X) (n : ℕ) → length xs ≡ n
    → ((number : ℕ) → 1 ≤ number → number ≤ n → get_or xs (number - 1) d ≡ f number) → xs ≡ map f (range_with_len 1 n)
by_number d xs f n size each =
    ext_get_or d xs (map f (range_with_len 1 n)) (size ∙ sym (length-map-range_with_len f 1 n)) (λ i small.
    let within : i < n = omega (arith, small, size) in
    let here : get_or xs (1 + i - 1) d ≡ f (1 + i) = each (1 + i) (omega arith) (omega (arith, within)) in
    ap (λ k. get_or xs k d) (sym (less_one i)) ∙ here ∙ sym (get_or-map-range_with_len f 1 n i (1 + i) d within refl))

pub same_by_number : {X : Type 0} (f g : ℕ → X) (first n : ℕ) → ((number : ℕ) → first ≤ number → number < first + n → f number ≡ g number)
    → map f (range_with_len first n) ≡ map g (range_with_len first n)
same_by_number f g first zero same = refl
same_by_number f g first (suc n) same =
    ap (λ x. x ∷ map f (range_with_len (first + 1) n)) (same first (omega arith) (omega arith))
    ∙ ap (λ xs. g first ∷ xs) (same_by_number f g (first + 1) n (λ number low high. same number (omega (arith, low)) (omega (arith, high))))

-- ---- one mask

-- a mask stays as small
pub with_bit_below : (w : Width) (count mask k : ℕ) (on : Bool) → count ≤ bits w → k < count → mask < 2 ^ count → with_bit w mask k on < 2 ^ count
with_bit_below w count mask k true fits small below =
    let one : 2 ^ k < 2 ^ bits w = pow_below k (bits w) (omega (arith, fits, small)) in
    let place : 1 * 2 ^ k ≡ 2 ^ k = omega arith in
    let bit : 1 * 2 ^ k % 2 ^ bits w ≡ 2 ^ k = rw (place, mod-eq_of_lt one) refl in
    or_lt count mask (1 * 2 ^ k % 2 ^ bits w) below (rw bit (pow_below k count small))
with_bit_below w count mask k false fits small below = omega (arith, and_le_l mask (bit_not w (1 * 2 ^ k % 2 ^ bits w)), below)

-- a bit that may be set is set or cleared
pub bit_kept : (w : Width) (count mask k : ℕ) (on : Bool) (named was shown : ℕ → Bool) → count ≤ bits w → k < count →
    ((i : ℕ) → i < count → was i ≡ has_bit mask i) → ((i : ℕ) → i < count → shown i ≡ has_bit (with_bit w mask k on) i) →
    mask ≡ mask_of count (λ i. named i && was i) → named k ≡ true → with_bit w mask k on ≡ mask_of count (λ i. named i && shown i)
bit_kept w count mask k on named was shown fits small was_is shown_is whole is =
    mask_from_bits count (with_bit w mask k on) (λ i. named i && shown i) (with_bit_below w count mask k on fits small below) each
  where
    below : mask < 2 ^ count
    below = subst (λ m. m < 2 ^ count) (sym whole) (mask_below count (λ i. named i && was i))

    other : (i : ℕ) → i < count → i ≢ k → has_bit (with_bit w mask k on) i ≡ (named i && shown i)
    other i within apart =
        let same = with_bit-other w mask k on (omega (arith, fits, small)) i (omega (arith, fits, within)) apart in
        same ∙ ap (λ m. has_bit m i) whole ∙ has_bit-mask count (λ j. named j && was j) i within
        ∙ ap (λ b. named i && b) (was_is i within ∙ sym same ∙ sym (shown_is i within))

    each : (i : ℕ) → i < count → has_bit (with_bit w mask k on) i ≡ (named i && shown i)
    each i within = elim (eqb_tells i k) [
      | inl h ↦ sym (ap (λ b. b && shown i) (ap named h.1 ∙ is) ∙ shown_is i within)
      | inr h ↦ other i within h.1
    ]

-- nothing is shown
pub none_kept : (count : ℕ) (test : ℕ → Bool) → ((k : ℕ) → k < count → test k ≡ false) → 0 ≡ mask_of count test
none_kept count test none = mask_from_bits count 0 test (omega (arith, mask_below count test)) (λ k small. has_bit-zero k ∙ sym (none k small))

-- ---- masks by panel

module _ (named : ℕ → ℕ → Bool) where
  -- the mask of a panel
  abbrev pub of_panel : List ℕ → ℕ → ℕ
  of_panel masks panel = mask_of 32 (λ k. named panel (1 + k) && has_bit (get_or masks (panel - 1) 0) (1 + k - 1))

  at_panel : (masks : List ℕ) (panel number : ℕ) (on : Bool) → masks ≡ map (of_panel masks) (range_with_len 1 8) → length masks ≡ 8 → 1 ≤ panel
      → panel ≤ 8 → 1 ≤ number → number ≤ 32 → named panel number ≡ true →
      get_or (with_bit_of_panel masks panel number on) (panel - 1) 0 ≡ of_panel (with_bit_of_panel masks panel number on) panel
  at_panel masks panel number on whole size low high one most is =
      let old = get_or masks (panel - 1) 0 in
      let bit = with_bit w32 old (number - 1) on in
      let written : get_or (with_bit_of_panel masks panel number on) (panel - 1) 0 ≡ bit =
      get_or-set_same masks (panel - 1) bit 0 (omega (arith, size, low, high)) in
      let place : 1 + (number - 1) ≡ number = omega (arith, one) in
      written
      ∙ bit_kept w32 32 old (number - 1) on (λ k. named panel (1 + k)) (λ k. has_bit old (1 + k - 1))
      (λ k. has_bit (get_or (with_bit_of_panel masks panel number on) (panel - 1) 0) (1 + k - 1))
      (omega arith) (omega (arith, one, most)) (λ i small. ap (has_bit old) (less_one i))
      (λ i small. ap (has_bit (get_or (with_bit_of_panel masks panel number on) (panel - 1) 0)) (less_one i) ∙ ap (λ m. has_bit m i) written)
      (at_number 0 masks (of_panel masks) 8 whole panel low high) (ap (named panel) place ∙ is)

  at_other : (masks : List ℕ) (panel number : ℕ) (on : Bool) → masks ≡ map (of_panel masks) (range_with_len 1 8) → (other : ℕ) → 1 ≤ other → other ≤ 8
      → other - 1 ≢ panel - 1 →
      get_or (with_bit_of_panel masks panel number on) (other - 1) 0 ≡ of_panel (with_bit_of_panel masks panel number on) other
  at_other masks panel number on whole other low high apart =
      let same = get_or-set_other masks (panel - 1) (other - 1) (with_bit w32 (get_or masks (panel - 1) 0) (number - 1) on) 0 apart in
      same ∙ at_number 0 masks (of_panel masks) 8 whole other low high ∙ ap (λ m. mask_of 32 (λ k. named other (1 + k) && has_bit m (1 + k - 1)))
      (sym same)

  each_panel : (masks : List ℕ) (panel number : ℕ) (on : Bool) → masks ≡ map (of_panel masks) (range_with_len 1 8) → length masks ≡ 8 → 1 ≤ panel
      → panel ≤ 8 → 1 ≤ number → number ≤ 32 → named panel number ≡ true →
      (other : ℕ) → 1 ≤ other → other ≤ 8
      → get_or (with_bit_of_panel masks panel number on) (other - 1) 0 ≡ of_panel (with_bit_of_panel masks panel number on) other
  each_panel masks panel number on whole size low high one most is other from upto = elim (eqb_tells other panel) [
    | inl h ↦ subst (λ q. get_or (with_bit_of_panel masks panel number on) (q - 1) 0 ≡ of_panel (with_bit_of_panel masks panel number on) q) (sym h.1)
        (at_panel masks panel number on whole size low high one most is)
    | inr h ↦ (let far = h.1 in at_other masks panel number on whole other from upto (λ e. far (omega (arith, e, low, from))))
  ]

  -- a bit that may be set is set or cleared
  pub panels_kept : (masks : List ℕ) (panel number : ℕ) (on : Bool) → masks ≡ map (of_panel masks) (range_with_len 1 8) → 1 ≤ panel → panel ≤ 8
      → 1 ≤ number → number ≤ 32 → named panel number ≡ true →
      with_bit_of_panel masks panel number on ≡ map (of_panel (with_bit_of_panel masks panel number on)) (range_with_len 1 8)
  panels_kept masks panel number on whole low high one most is =
      let size : length masks ≡ 8 = ap length whole in
      by_number 0 (with_bit_of_panel masks panel number on) (of_panel (with_bit_of_panel masks panel number on)) 8
      (length-set masks (panel - 1) (with_bit w32 (get_or masks (panel - 1) 0) (number - 1) on) ∙ size)
      (each_panel masks panel number on whole size low high one most is)

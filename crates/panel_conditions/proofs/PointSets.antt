-- What sets of a panel's points become: one point put in or taken out, and two sets joined or parted.
use Rattle.std.proofs.Common.{◌≡◌, ◌≢◌, ◌⊎◌, inl, inr, ℕ, zero, suc, ◌+◌, ◌-◌, ◌*◌, ◌%◌, ◌<◌, ◌≤◌, ◌^◌, Bool, true}
use Rattle.std.proofs.Common.{false, not, List, [], ◌∷◌, Option, Some, None, set, get_or, ◌&&◌, ◌||◌, bit_and, refl}
use Rattle.std.proofs.Common.{sym, ◌∙◌, ap, subst, arith}
use Rattle.std.specs.Int.{w128, bit_not}
use Rattle.std.specs.Int.Bits.{bit_or}
use Rattle.std.proofs.Math.Nat.{mod-eq_of_lt}
use Rattle.std.proofs.lemmas.Bool.Decides.{eqb_tells}
use Rattle.std.proofs.lemmas.Nat.{pow_below, or_lt, and_le_l}
use Rattle.site_types.specs.declared.site.Site.{Site}
use Rattle.site_types.specs.declared.point_set.PointSet.{PointSet}
use Rattle.site_types.specs.Bits.{IsPlace, has_bit, mask_of, half_of, bit_of, with_bit, with_point, no_set}
use Rattle.site_types.proofs.Masks.{mask_below, has_bit-mask, mask_from_bits, mask_same, mask_empty, has_bit-or, has_bit-and, has_bit-not, with_bit-same, with_bit-other}
use Rattle.site_types.proofs.Done.{lt_tells}
use Rattle.panel_conditions.specs.Points.{addressed, on_point, addresses_where, points_where}
use Rattle.panel_conditions.specs.PointSets.{either_set, set_without}

-- ---- masks of 96 bits

pub or_mask : (p q : ℕ → Bool) → bit_or (mask_of 96 p) (mask_of 96 q) ≡ mask_of 96 (λ k. p k || q k)
or_mask p q =
    mask_from_bits 96 (bit_or (mask_of 96 p) (mask_of 96 q)) (λ k. p k || q k)
    (or_lt 96 (mask_of 96 p) (mask_of 96 q) (mask_below 96 p) (mask_below 96 q))
    (λ k small. has_bit-or (mask_of 96 p) (mask_of 96 q) k ∙ ap (λ b. b || has_bit (mask_of 96 q) k) (has_bit-mask 96 p k small) ∙ ap (λ b. p k || b)
    (has_bit-mask 96 q k small))

pub without_mask : (p q : ℕ → Bool) → bit_and (mask_of 96 p) (bit_not w128 (mask_of 96 q)) ≡ mask_of 96 (λ k. p k && not (q k))
without_mask p q =
    let a = mask_of 96 p in
    let b = mask_of 96 q in
    let fits : b < 2 ^ 128 = omega (arith, mask_below 96 q) in
    mask_from_bits 96 (bit_and a (bit_not w128 b)) (λ k. p k && not (q k)) (omega (arith, mask_below 96 p, and_le_l a (bit_not w128 b)))
    (λ k small.
    has_bit-and a (bit_not w128 b) k
    ∙ ap (λ x. has_bit a k && x) (has_bit-not w128 b k fits (omega (arith, small)))
    ∙ ap (λ x. x && not (has_bit b k)) (has_bit-mask 96 p k small)
    ∙ ap (λ x. p k && not x) (has_bit-mask 96 q k small))

bit_below : (b : ℕ) → b < 96 → 1 * 2 ^ b % 2 ^ 128 < 2 ^ 96
bit_below b small =
    let low : 2 ^ b < 2 ^ 96 = pow_below b 96 small in
    let one : 1 * 2 ^ b ≡ 2 ^ b = omega arith in
    let fits : 2 ^ b < 2 ^ 128 = omega (arith, low) in
    subst (λ n. n < 2 ^ 96) (sym (ap (λ n. n % 2 ^ 128) one ∙ mod-eq_of_lt fits)) low

-- one bit is written, and no other test differs
with_mask : (p q : ℕ → Bool) (b : ℕ) (on : Bool) → b < 96 → q b ≡ on → ((k : ℕ) → k < 96 → k ≢ b → p k ≡ q k)
    → with_bit w128 (mask_of 96 p) b on ≡ mask_of 96 q
with_mask p q b on small here same = mask_from_bits 96 (with_bit w128 (mask_of 96 p) b on) q (below on) bit
  where
    below : (c : Bool) → with_bit w128 (mask_of 96 p) b c < 2 ^ 96
    below true = or_lt 96 (mask_of 96 p) (1 * 2 ^ b % 2 ^ 128) (mask_below 96 p) (bit_below b small)
    below false = omega (arith, mask_below 96 p, and_le_l (mask_of 96 p) (bit_not w128 (1 * 2 ^ b % 2 ^ 128)))

    bit : (k : ℕ) → k < 96 → has_bit (with_bit w128 (mask_of 96 p) b on) k ≡ q k
    bit k within = elim (eqb_tells k b) [
      | inl is ↦ ap (has_bit (with_bit w128 (mask_of 96 p) b on)) is.1 ∙ with_bit-same w128 (mask_of 96 p) b on (omega (arith, small)) ∙ sym here ∙ ap
          q (sym is.1)
      | inr other ↦ with_bit-other w128 (mask_of 96 p) b on (omega (arith, small)) k (omega (arith, within)) other.1 ∙ has_bit-mask 96 p k within ∙
          same k within other.1
    ]

-- ---- loops

abbrev pub halves : Site → ℕ → (ℕ → Bool) → ℕ → List ℕ
halves site panel test line = addresses_where site panel test line 0 ∷ addresses_where site panel test line 96 ∷ []

four_same : (at at' : ℕ → List ℕ) → at 1 ≡ at' 1 → at 2 ≡ at' 2 → at 3 ≡ at' 3 → at 4 ≡ at' 4 → at 1 ∷ at 2 ∷ at 3 ∷ at 4 ∷ [] ≡ at' 1 ∷ at' 2 ∷ at' 3
    ∷ at' 4 ∷ []
four_same at at' p q r s = rw (p, q, r, s) refl

-- one of four loops is changed
lines_put : (at at' : ℕ → List ℕ) (change : List ℕ → List ℕ) (i : ℕ) → i < 4 → change (at (i + 1)) ≡ at' (i + 1)
    → ((l : ℕ) → l ≢ i + 1 → at l ≡ at' l) →
    set (at 1 ∷ at 2 ∷ at 3 ∷ at 4 ∷ []) i (change (get_or (at 1 ∷ at 2 ∷ at 3 ∷ at 4 ∷ []) i [])) ≡ at' 1 ∷ at' 2 ∷ at' 3 ∷ at' 4 ∷ []
lines_put at at' change zero small here same = rw (here, same 2 (omega arith), same 3 (omega arith), same 4 (omega arith)) refl
lines_put at at' change (suc zero) small here same = rw (same 1 (omega arith), here, same 3 (omega arith), same 4 (omega arith)) refl
lines_put at at' change (suc (suc zero)) small here same = rw (same 1 (omega arith), same 2 (omega arith), here, same 4 (omega arith)) refl
lines_put at at' change (suc (suc (suc zero))) small here same = rw (same 1 (omega arith), same 2 (omega arith), same 3 (omega arith), here) refl
lines_put at at' change (suc (suc (suc (suc i)))) small here same = absurd (omega (arith, small))

-- one of two numbers has a bit written
half_put : (h b m n m' n' : ℕ) (on : Bool) → (h ≡ 0) × (with_bit w128 m b on ≡ m') × (n ≡ n') ⊎ (h ≡ 1) × (m ≡ m') × (with_bit w128 n b on ≡ n') →
    set (m ∷ n ∷ []) h (with_bit w128 (get_or (m ∷ n ∷ []) h 0) b on) ≡ m' ∷ n' ∷ []
half_put h b m n m' n' on (inl low) =
    ap (λ i. set (m ∷ n ∷ []) i (with_bit w128 (get_or (m ∷ n ∷ []) i 0) b on)) low.0 ∙ ap (λ x. x ∷ n ∷ []) low.1 ∙ ap (λ x. m' ∷ x ∷ []) low.2
half_put h b m n m' n' on (inr high) =
    ap (λ i. set (m ∷ n ∷ []) i (with_bit w128 (get_or (m ∷ n ∷ []) i 0) b on)) high.0 ∙ ap (λ x. x ∷ with_bit w128 n b on ∷ []) high.1 ∙ ap
    (λ x. m' ∷ x ∷ []) high.2

module _ (site : Site) (panel : ℕ) (p q : ℕ → Bool) where
  addresses_agree : (line past : ℕ)
      → ((k : ℕ) → k < 96 → on_point p (addressed site panel line (past + k + 1)) ≡ on_point q (addressed site panel line (past + k + 1))) →
      addresses_where site panel p line past ≡ addresses_where site panel q line past
  unfolding addresses_where
  addresses_agree line past same =
      mask_same 96 (λ k. on_point p (addressed site panel line (past + k + 1))) (λ k. on_point q (addressed site panel line (past + k + 1))) same

  -- sets are the same where their tests agree at each address
  pub sets_agree : ((line address : ℕ) → on_point p (addressed site panel line address) ≡ on_point q (addressed site panel line address))
      → points_where site panel p ≡ points_where site panel q
  unfolding points_where
  sets_agree same =
      let one = λ (line past : ℕ). addresses_agree line past (λ k small. same line (past + k + 1)) in
      rw (one 1 0, one 1 96, one 2 0, one 2 96, one 3 0, one 3 96, one 4 0, one 4 96) refl

  module _ (line address : ℕ) (on : Bool) (here : on_point q (addressed site panel line address) ≡ on) (place : IsPlace line address)
      (same : (l a : ℕ) → (l ≢ line) ⊎ (a ≢ address) → on_point p (addressed site panel l a) ≡ on_point q (addressed site panel l a)) where
    line_same : (l : ℕ) → l ≢ line → halves site panel p l ≡ halves site panel q l
    line_same l other =
        let one = λ (past : ℕ). addresses_agree l past (λ k small. same l (past + k + 1) (inl other)) in
        ap (λ m. m ∷ addresses_where site panel p l 96 ∷ []) (one 0) ∙ ap (λ m. addresses_where site panel q l 0 ∷ m ∷ []) (one 96)

    written : (past b : ℕ) → b < 96 → past + b + 1 ≡ address
        → with_bit w128 (addresses_where site panel p line past) b on ≡ addresses_where site panel q line past
    unfolding addresses_where
    written past b small is =
        with_mask (λ k. on_point p (addressed site panel line (past + k + 1))) (λ k. on_point q (addressed site panel line (past + k + 1))) b on small
        (ap (λ a. on_point q (addressed site panel line a)) is ∙ here)
        (λ k within apart. same line (past + k + 1) (inr (λ e. apart (omega (arith, e, is)))))

    untouched : (past : ℕ) → ((k : ℕ) → k < 96 → past + k + 1 ≢ address)
        → addresses_where site panel p line past ≡ addresses_where site panel q line past
    untouched past apart = addresses_agree line past (λ k small. same line (past + k + 1) (inr (apart k small)))

    low : address ≤ 96
        → (half_of address ≡ 0) × (with_bit w128 (addresses_where site panel p line 0) (bit_of address) on ≡ addresses_where site panel q line 0)
        × (addresses_where site panel p line 96 ≡ addresses_where site panel q line 96)
    low le =
        let first = place.2 in (
          omega (arith, le, first),
          written 0 (bit_of address) (omega arith) (omega (arith, le, first)),
          untouched 96 (λ k small e. omega (arith, e, le)),
        )

    high : 96 < address → (half_of address ≡ 1) × (addresses_where site panel p line 0 ≡ addresses_where site panel q line 0)
        × (with_bit w128 (addresses_where site panel p line 96) (bit_of address) on ≡ addresses_where site panel q line 96)
    high less =
        let last = place.3 in (
          omega (arith, less, last),
          untouched 0 (λ k small e. omega (arith, e, less, small)),
          written 96 (bit_of address) (omega arith) (omega (arith, less, last)),
        )

    line_put : (l : ℕ) → l ≡ line →
        set (halves site panel p l) (half_of address) (with_bit w128 (get_or (halves site panel p l) (half_of address) 0) (bit_of address) on)
        ≡ halves site panel q l
    line_put l e =
        let at_line :
        set (halves site panel p line) (half_of address)
        (with_bit w128 (get_or (halves site panel p line) (half_of address) 0) (bit_of address) on) ≡ halves site panel q line =
        half_put (half_of address) (bit_of address) (addresses_where site panel p line 0) (addresses_where site panel p line 96)
        (addresses_where site panel q line 0) (addresses_where site panel q line 96) on
        (elim (lt_tells 96 address) [ inl less ↦ inr (high less.1) | inr other ↦ inl (low other.1) ]) in
        subst (λ n. set (halves site panel p n) (half_of address) (with_bit w128 (get_or (halves site panel p n) (half_of address) 0) (bit_of address) on) ≡ halves site panel q n) (sym e) at_line

    -- one point is put in or taken out
    pub put_is : with_point (points_where site panel p) line address on ≡ points_where site panel q
    unfolding points_where
    put_is =
        let e : line - 1 + 1 ≡ line = (let first = place.0 in omega (arith, first)) in
        ap (λ l. (let s : PointSet = record { loops = l } in s))
        (lines_put (halves site panel p) (halves site panel q)
        (λ hs. set hs (half_of address) (with_bit w128 (get_or hs (half_of address) 0) (bit_of address) on)) (line - 1)
        (let last = place.1 in omega (arith, last)) (line_put (line - 1 + 1) e) (λ l other. line_same l (λ same_line. other (same_line ∙ sym e))))

-- ---- two sets

on_either : (p q : ℕ → Bool) (o : Option ℕ) → (on_point p o || on_point q o) ≡ on_point (λ place. p place || q place) o
on_either p q None = refl
on_either p q (Some place) = refl

on_without : (p q : ℕ → Bool) (o : Option ℕ) → (on_point p o && not (on_point q o)) ≡ on_point (λ place. p place && not (q place)) o
on_without p q None = refl
on_without p q (Some place) = refl

on_none : (o : Option ℕ) → on_point (λ place. false) o ≡ false
on_none None = refl
on_none (Some place) = refl

module _ (site : Site) (panel : ℕ) where
  addresses_either : (p q : ℕ → Bool) (line past : ℕ) → bit_or (addresses_where site panel p line past) (addresses_where site panel q line past)
      ≡ addresses_where site panel (λ place. p place || q place) line past
  unfolding addresses_where
  addresses_either p q line past =
      or_mask (λ k. on_point p (addressed site panel line (past + k + 1))) (λ k. on_point q (addressed site panel line (past + k + 1)))
      ∙ mask_same 96 (λ k. on_point p (addressed site panel line (past + k + 1)) || on_point q (addressed site panel line (past + k + 1)))
      (λ k. on_point (λ place. p place || q place) (addressed site panel line (past + k + 1)))
      (λ k small. on_either p q (addressed site panel line (past + k + 1)))

  addresses_without : (p q : ℕ → Bool) (line past : ℕ)
      → bit_and (addresses_where site panel p line past) (bit_not w128 (addresses_where site panel q line past))
      ≡ addresses_where site panel (λ place. p place && not (q place)) line past
  unfolding addresses_where
  addresses_without p q line past =
      without_mask (λ k. on_point p (addressed site panel line (past + k + 1))) (λ k. on_point q (addressed site panel line (past + k + 1)))
      ∙ mask_same 96 (λ k. on_point p (addressed site panel line (past + k + 1)) && not (on_point q (addressed site panel line (past + k + 1))))
      (λ k. on_point (λ place. p place && not (q place)) (addressed site panel line (past + k + 1)))
      (λ k small. on_without p q (addressed site panel line (past + k + 1)))

  addresses_none : (line past : ℕ) → addresses_where site panel (λ place. false) line past ≡ 0
  unfolding addresses_where
  addresses_none line past =
      mask_empty 96 (mask_of 96 (λ k. on_point (λ place. false) (addressed site panel line (past + k + 1)))) (mask_below 96 _)
      (λ k small. has_bit-mask 96 (λ k. on_point (λ place. false) (addressed site panel line (past + k + 1))) k small ∙ on_none
      (addressed site panel line (past + k + 1)))

  pub either_is : (p q : ℕ → Bool)
      → either_set (points_where site panel p) (points_where site panel q) ≡ points_where site panel (λ place. p place || q place)
  unfolding points_where
  either_is p q =
      let one = addresses_either p q in
      rw (one 1 0, one 1 96, one 2 0, one 2 96, one 3 0, one 3 96, one 4 0, one 4 96) refl

  pub without_is : (p q : ℕ → Bool)
      → set_without (points_where site panel p) (points_where site panel q) ≡ points_where site panel (λ place. p place && not (q place))
  unfolding points_where
  without_is p q =
      let one = addresses_without p q in
      rw (one 1 0, one 1 96, one 2 0, one 2 96, one 3 0, one 3 96, one 4 0, one 4 96) refl

  pub none_is : points_where site panel (λ place. false) ≡ no_set
  unfolding points_where
  none_is =
      let one = addresses_none in
      rw (one 1 0, one 1 96, one 2 0, one 2 96, one 3 0, one 3 96, one 4 0, one 4 96) refl

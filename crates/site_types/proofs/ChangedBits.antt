-- What the change of one bit makes of the masks by panel and of the sets of points.
use Rattle.std.proofs.Common.{◌≡◌, ◌≢◌, ◌⊎◌, inl, inr, ℕ, ◌-◌, ◌/◌, ◌%◌, ◌<◌, ◌≤◌, Bool, true, false, List, [], length, set, get_or, ◌==◌, sym, ◌∙◌, ap, arith, get_or-set_same, get_or-set_other}
use Rattle.std.specs.Int.{w32, w128}
use Rattle.std.proofs.lemmas.Bool.Decides.{eqb_tells}
use Rattle.site_types.specs.declared.point_set.PointSet.{PointSet}
use Rattle.site_types.specs.declared.retained.Retained.{Retained}
use Rattle.site_types.specs.Bits.{IsPlace, has_bit, with_bit, has_point, with_point}
use Rattle.site_types.specs.Done.{no_points}
use Rattle.site_types.specs.Changes.{IsPanelNumber, IsNumber, with_number, IsSized}
use Rattle.site_types.proofs.Masks.{with_bit-same, with_bit-other}

-- the mask of a panel, at the bit of a number
pub number-same : (masks : List ℕ) (panel number : ℕ) (on : Bool) → length masks ≡ 8 → IsPanelNumber panel → IsNumber number
    → has_bit (get_or (with_number masks panel number on) (panel - 1) 0) (number - 1) ≡ on
number-same masks panel number on size here place =
    ap (λ m. has_bit m (number - 1)) (get_or-set_same masks (panel - 1) (with_bit w32 (get_or masks (panel - 1) 0) (number - 1) on) 0
    (omega (arith, size, here.0, here.1)))
    ∙ with_bit-same w32 (get_or masks (panel - 1) 0) (number - 1) on (omega (arith, place.0, place.1))

pub number-other : (masks : List ℕ) (panel number : ℕ) (on : Bool) → length masks ≡ 8 → IsPanelNumber panel → IsNumber number → (p n : ℕ)
    → IsPanelNumber p → IsNumber n → (p ≡ panel → n ≡ number → ⊥)
    → has_bit (get_or (with_number masks panel number on) (p - 1) 0) (n - 1) ≡ has_bit (get_or masks (p - 1) 0) (n - 1)
number-other masks panel number on size here place p n here' place' apart = go (eqb_tells p panel)
  where
    go : (((p == panel) ≡ true) × (p ≡ panel)) ⊎ (((p == panel) ≡ false) × (p ≢ panel))
        → has_bit (get_or (with_number masks panel number on) (p - 1) 0) (n - 1) ≡ has_bit (get_or masks (p - 1) 0) (n - 1)
    go (inl same) =
        let e : p - 1 ≡ panel - 1 = ap (λ k. k - 1) same.1 in
        let far = apart same.1 in
        let ne : n - 1 ≢ number - 1 = (λ h. far (omega (arith, h, place.0, place'.0))) in
        ap (λ k. has_bit (get_or (with_number masks panel number on) k 0) (n - 1)) e
        ∙ ap (λ m. has_bit m (n - 1)) (get_or-set_same masks (panel - 1) (with_bit w32 (get_or masks (panel - 1) 0) (number - 1) on) 0
        (omega (arith, size, here.0, here.1)))
        ∙ with_bit-other w32 (get_or masks (panel - 1) 0) (number - 1) on (omega (arith, place.0, place.1)) (n - 1)
        (omega (arith, place'.0, place'.1)) ne
        ∙ ap (λ k. has_bit (get_or masks k 0) (n - 1)) (sym e)
    go (inr other) =
        let far = other.1 in
        let ne : p - 1 ≢ panel - 1 = (λ h. far (omega (arith, h, here.0, here'.0))) in
        ap (λ m. has_bit m (n - 1)) (get_or-set_other masks (panel - 1) (p - 1) (with_bit w32 (get_or masks (panel - 1) 0) (number - 1) on) 0 ne)

pub half_small : (a : ℕ) → a ≤ 192 → (a - 1) / 96 < 2
half_small a le = grind (arith, le)

bit_small : (a : ℕ) → (a - 1) % 96 < 96
bit_small a = grind arith

same_address : (a b : ℕ) → 1 ≤ a → 1 ≤ b → (a - 1) / 96 ≡ (b - 1) / 96 → (a - 1) % 96 ≡ (b - 1) % 96 → a ≡ b
same_address a b la lb h m = grind (arith, la, lb, h, m)

within_loop : (old : List ℕ) (half bit h b : ℕ) (on : Bool) → half < length old → bit < 96 → b < 96 → (h ≡ half → b ≡ bit → ⊥)
    → has_bit (get_or (set old half (with_bit w128 (get_or old half 0) bit on)) h 0) b ≡ has_bit (get_or old h 0) b
within_loop old half bit h b on size small small' apart = go (eqb_tells h half)
  where
    go : (((h == half) ≡ true) × (h ≡ half)) ⊎ (((h == half) ≡ false) × (h ≢ half))
        → has_bit (get_or (set old half (with_bit w128 (get_or old half 0) bit on)) h 0) b ≡ has_bit (get_or old h 0) b
    go (inl same) =
        ap (λ k. has_bit (get_or (set old half (with_bit w128 (get_or old half 0) bit on)) k 0) b) same.1
        ∙ ap (λ m. has_bit m b) (get_or-set_same old half (with_bit w128 (get_or old half 0) bit on) 0 size)
        ∙ with_bit-other w128 (get_or old half 0) bit on (omega (arith, small)) b (omega (arith, small')) (apart same.1)
        ∙ ap (λ k. has_bit (get_or old k 0) b) (sym same.1)
    go (inr other) = ap (λ m. has_bit m b) (get_or-set_other old half h (with_bit w128 (get_or old half 0) bit on) 0 other.1)

-- a set of points, at a point that is put in or taken out
pub set-same : (points : PointSet) (line address : ℕ) (on : Bool) → length points.loops ≡ 4 → length (get_or points.loops (line - 1) []) ≡ 2
    → IsPlace line address → has_point (with_point points line address on) line address ≡ on
set-same points line address on size halves place =
    let half = (address - 1) / 96 in
    let bit = (address - 1) % 96 in
    let old = get_or points.loops (line - 1) [] in
    ap (λ h. has_bit (get_or h half 0) bit) (get_or-set_same points.loops (line - 1) (set old half (with_bit w128 (get_or old half 0) bit on)) []
    (omega (arith, size, place.0, place.1)))
    ∙ ap (λ m. has_bit m bit)
    (get_or-set_same old half (with_bit w128 (get_or old half 0) bit on) 0 (omega (arith, halves, half_small address place.3)))
    ∙ with_bit-same w128 (get_or old half 0) bit on (omega (arith, bit_small address))

pub set-other : (points : PointSet) (line address : ℕ) (on : Bool) → length points.loops ≡ 4 → length (get_or points.loops (line - 1) []) ≡ 2
    → IsPlace line address → (l a : ℕ) → IsPlace l a → (l ≡ line → a ≡ address → ⊥)
    → has_point (with_point points line address on) l a ≡ has_point points l a
set-other points line address on size halves place l a place' apart = go (eqb_tells l line)
  where
    go : (((l == line) ≡ true) × (l ≡ line)) ⊎ (((l == line) ≡ false) × (l ≢ line))
        → has_point (with_point points line address on) l a ≡ has_point points l a
    go (inl same) =
        let e : l - 1 ≡ line - 1 = ap (λ k. k - 1) same.1 in
        let old = get_or points.loops (line - 1) [] in
        let half = (address - 1) / 96 in
        let bit = (address - 1) % 96 in
        let new = with_bit w128 (get_or old half 0) bit on in
        ap (λ k. has_bit (get_or (get_or (set points.loops (line - 1) (set old half new)) k []) ((a - 1) / 96) 0) ((a - 1) % 96)) e
        ∙ ap (λ h. has_bit (get_or h ((a - 1) / 96) 0) ((a - 1) % 96))
        (get_or-set_same points.loops (line - 1) (set old half new) [] (omega (arith, size, place.0, place.1)))
        ∙ within_loop old ((address - 1) / 96) ((address - 1) % 96) ((a - 1) / 96) ((a - 1) % 96) on
        (omega (arith, halves, half_small address place.3)) (bit_small address) (bit_small a)
        (λ h m. apart same.1 (same_address a address place'.2 place.2 h m))
        ∙ ap (λ k. has_bit (get_or (get_or points.loops k []) ((a - 1) / 96) 0) ((a - 1) % 96)) (sym e)
    go (inr other) =
        let far = other.1 in
        let ne : l - 1 ≢ line - 1 = (λ h. far (omega (arith, h, place.0, place'.0))) in
        let old = get_or points.loops (line - 1) [] in
        ap (λ h. has_bit (get_or h ((a - 1) / 96) 0) ((a - 1) % 96))
        (get_or-set_other points.loops (line - 1) (l - 1)
        (set old ((address - 1) / 96) (with_bit w128 (get_or old ((address - 1) / 96) 0) ((address - 1) % 96) on)) [] ne)

-- the points of a panel, at a point that is put in or taken out
abbrev pub set_points : List PointSet → ℕ → ℕ → ℕ → Bool → List PointSet
set_points points panel line address off = set points (panel - 1) (with_point (get_or points (panel - 1) no_points) line address off)

pub point-same : (kept : Retained) (panel line address : ℕ) (off : Bool) → IsSized kept → IsPanelNumber panel → IsPlace line address
    → has_point (get_or (set_points kept.points panel line address off) (panel - 1) no_points) line address ≡ off
point-same kept panel line address off sized here place =
    let old = get_or kept.points (panel - 1) no_points in
    ap (λ s. has_point s line address) (get_or-set_same kept.points (panel - 1) (with_point old line address off) no_points (let size =
    sized.points in omega (arith, size, here.0, here.1)))
    ∙ set-same old line address off (sized.loops (panel - 1) (omega (arith, here.0, here.1)))
    (sized.halves (panel - 1) (line - 1) (omega (arith, here.0, here.1)) (omega (arith, place.0, place.1))) place

pub point-other : (kept : Retained) (panel line address : ℕ) (off : Bool) → IsSized kept → IsPanelNumber panel → IsPlace line address → (p l a : ℕ)
    → IsPanelNumber p → IsPlace l a → (p ≡ panel → l ≡ line → a ≡ address → ⊥)
    → has_point (get_or (set_points kept.points panel line address off) (p - 1) no_points) l a ≡ has_point (get_or kept.points (p - 1) no_points) l a
point-other kept panel line address off sized here place p l a here' place' apart = go (eqb_tells p panel)
  where
    go : (((p == panel) ≡ true) × (p ≡ panel)) ⊎ (((p == panel) ≡ false) × (p ≢ panel))
        → has_point (get_or (set_points kept.points panel line address off) (p - 1) no_points) l a ≡ has_point (get_or kept.points (p - 1) no_points)
        l a
    go (inl same) =
        let e : p - 1 ≡ panel - 1 = ap (λ k. k - 1) same.1 in
        let old = get_or kept.points (panel - 1) no_points in
        ap (λ k. has_point (get_or (set_points kept.points panel line address off) k no_points) l a) e
        ∙ ap (λ s. has_point s l a) (get_or-set_same kept.points (panel - 1) (with_point old line address off) no_points (let size = sized.points in
        omega (arith, size, here.0, here.1)))
        ∙ set-other old line address off (sized.loops (panel - 1) (omega (arith, here.0, here.1)))
        (sized.halves (panel - 1) (line - 1) (omega (arith, here.0, here.1)) (omega (arith, place.0, place.1))) place l a place' (apart same.1)
        ∙ ap (λ k. has_point (get_or kept.points k no_points) l a) (sym e)
    go (inr other) =
        let far = other.1 in
        let ne : p - 1 ≢ panel - 1 = (λ h. far (omega (arith, h, here.0, here'.0))) in
        ap (λ s. has_point s l a)
        (get_or-set_other kept.points (panel - 1) (p - 1) (with_point (get_or kept.points (panel - 1) no_points) line address off) no_points ne)

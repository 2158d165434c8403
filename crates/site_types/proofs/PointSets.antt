-- What a set of points has after one point was put in or taken out.
use Rattle.std.proofs.Common.{◌≡◌, ◌≢◌, ◌<◌, ◌-◌, ◌⊎◌, inl, inr, ℕ, Bool, [], length, get_or, set, sym, ◌∙◌, ap, arith}
use Rattle.std.specs.Int.{w128}
use Rattle.std.proofs.lemmas.List.{get_or-set_same, get_or-set_other}
use Rattle.std.proofs.lemmas.Bool.{cases_eq}
use Rattle.site_types.specs.declared.point_set.PointSet.{PointSet}
use Rattle.site_types.specs.Bits.{IsPlace, half_of, bit_of, has_bit, has_point, with_bit, with_point}
use Rattle.site_types.proofs.Masks.{with_bit-same, with_bit-other}

-- a set has four loops of two numbers each
pub record IsShaped (set : PointSet) : Type 0 where
  pub loops : length set.loops ≡ 4
  pub halves : (k : ℕ) → k < 4 → length (get_or set.loops k []) ≡ 2

-- the loop that a point was written to
written : (points : PointSet) (line address : ℕ) (on : Bool) → IsShaped points → IsPlace line address →
    let halves = get_or points.loops (line - 1) [] in
    get_or (with_point points line address on).loops (line - 1) [] ≡
    set halves (half_of address) (with_bit w128 (get_or halves (half_of address) 0) (bit_of address) on)
written points line address on shaped place =
    get_or-set_same points.loops (line - 1) _ [] (omega (arith, shaped.loops, place.0, place.1))

pub has_point-same : (points : PointSet) (line address : ℕ) (on : Bool) → IsShaped points → IsPlace line address →
    has_point (with_point points line address on) line address ≡ on
has_point-same points line address on shaped place =
    let halves = get_or points.loops (line - 1) [] in
    let two = shaped.halves (line - 1) (omega (arith, place.0, place.1)) in
    let half : half_of address < length halves = omega (arith, two, place.2, place.3) in
    let mask = with_bit w128 (get_or halves (half_of address) 0) (bit_of address) on in
    ap (λ h. has_bit (get_or h (half_of address) 0) (bit_of address)) (written points line address on shaped place)
    ∙ ap (λ m. has_bit m (bit_of address)) (get_or-set_same halves (half_of address) mask 0 half)
    ∙ with_bit-same w128 (get_or halves (half_of address) 0) (bit_of address) on (omega arith)

same_loop : (points : PointSet) (line address : ℕ) (on : Bool) → IsShaped points → IsPlace line address → (a : ℕ) → IsPlace line a → a ≢ address →
    (half_of a ≡ half_of address) ⊎ (half_of a ≢ half_of address) → has_point (with_point points line address on) line a ≡ has_point points line a
same_loop points line address on shaped place a there apart (inl here) =
    let halves = get_or points.loops (line - 1) [] in
    let two = shaped.halves (line - 1) (omega (arith, place.0, place.1)) in
    let half : half_of address < length halves = omega (arith, two, place.2, place.3) in
    let mask = with_bit w128 (get_or halves (half_of address) 0) (bit_of address) on in
    let bits : bit_of a ≢ bit_of address = λ same. apart (omega (arith, here, same, place.2, there.2)) in
    ap (λ h. has_bit (get_or h (half_of a) 0) (bit_of a)) (written points line address on shaped place)
    ∙ ap (λ k. has_bit (get_or (set halves (half_of address) mask) k 0) (bit_of a)) here
    ∙ ap (λ m. has_bit m (bit_of a)) (get_or-set_same halves (half_of address) mask 0 half)
    ∙ with_bit-other w128 (get_or halves (half_of address) 0) (bit_of address) on (omega arith) (bit_of a) (omega arith) bits
    ∙ ap (λ k. has_bit (get_or halves k 0) (bit_of a)) (sym here)
same_loop points line address on shaped place a there apart (inr other) =
    let halves = get_or points.loops (line - 1) [] in
    let mask = with_bit w128 (get_or halves (half_of address) 0) (bit_of address) on in
    ap (λ h. has_bit (get_or h (half_of a) 0) (bit_of a)) (written points line address on shaped place)
    ∙ ap (λ m. has_bit m (bit_of a)) (get_or-set_other halves (half_of address) (half_of a) mask 0 other)

on_line : (points : PointSet) (line address : ℕ) (on : Bool) → IsShaped points → IsPlace line address → (l a : ℕ) → IsPlace l a
    → (l ≢ line) ⊎ (a ≢ address) →
    (l ≡ line) ⊎ (l ≢ line) → has_point (with_point points line address on) l a ≡ has_point points l a
on_line points line address on shaped place l a there (inl other) (inl same) = absurd (other same)
on_line points line address on shaped place l a there (inr apart) (inl same) =
    let here : IsPlace line a = (place.0, place.1, there.2, there.3) in
    ap (λ k. has_point (with_point points line address on) k a) same
    ∙ same_loop points line address on shaped place a here apart (cases_eq (half_of a) (half_of address))
    ∙ ap (λ k. has_point points k a) (sym same)
on_line points line address on shaped place l a there either (inr other) =
    let far : l - 1 ≢ line - 1 = λ same. other (omega (arith, same, place.0, there.0)) in
    ap (λ h. has_bit (get_or h (half_of a) 0) (bit_of a)) (get_or-set_other points.loops (line - 1) (l - 1) _ [] far)

-- every other point is as it was
pub has_point-other : (points : PointSet) (line address : ℕ) (on : Bool) → IsShaped points → IsPlace line address →
    (l a : ℕ) → IsPlace l a → (l ≢ line) ⊎ (a ≢ address) → has_point (with_point points line address on) l a ≡ has_point points l a
has_point-other points line address on shaped place l a there either =
    on_line points line address on shaped place l a there either (cases_eq l line)

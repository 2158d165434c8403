-- Sets of places, kept as the bits of bytes, and the points that they have.
use Rattle.std.proofs.Common.{◌≡◌, ⊎_elim, inl, inr, nat_lt, ℕ, zero, suc, ◌-◌, ◌*◌, ◌%◌, ◌^◌, ◌<◌, ◌≤◌, ◌==◌, Bool, true, false, refl, sym, ◌∙◌, ap, arith}
use Rattle.std.proofs.Common.{List, [], ◌∷◌, length, map, get_or, set, length-set, slice_get, Some}
use Rattle.std.proofs.lemmas.Nat.{one_shl}
use Rattle.std.proofs.lemmas.Nat.Bits.{bit_at_ones, bit_at_ones_above}
use Rattle.std.proofs.lemmas.Option.{slice_get_within}
use Rattle.site_types.specs.Bits.{has_bit}
use Rattle.site_types.proofs.Done.{lt_tells}
use Rattle.site_types.specs.declared.point.Point.{Point as PointPlan}
use Rattle.site_types.specs.declared.retained.Retained.{Retained}
use Rattle.coincidence_rules.proofs.Lists.{get_set}
use Rattle.answer_lanes.specs.declared.place_set.PlaceSet.{PlaceSet}
use Rattle.answer_lanes.specs.Places.{HasFirst, SetsPlace, has_place}
use Rattle.coincidence.specs.declared.point_watch.PointWatch.{PointWatch}
use Rattle.coincidence.specs.Parts.{is_at_rest, point_from, stays_missing}
use Rattle.coincidence.specs.Places.{HasPointsWhere}
use Rattle.coincidence.proofs.Watched.{get_any, read_is}

-- so many first bits of a byte are those below their count
pub ones_have : (count : ℕ) → count ≤ 8 → (k : ℕ) → has_bit (1 * 2 ^ count % 65536 - 1) k ≡ nat_lt k count
ones_have count few k =
    let ones : 1 * 2 ^ count % 65536 - 1 ≡ 2 ^ count - 1 = ap (λ n. n - 1) (one_shl count 16 (omega (arith, few))) in
    ap (λ n. has_bit n k) ones ∙ elim (lt_tells k count) [
      | inl less ↦ ap (λ b. b == 1) (bit_at_ones count k less.1) ∙ sym less.0
      | inr other ↦ ap (λ b. b == 1) (bit_at_ones_above count k other.1) ∙ sym other.0
    ]

-- ---- the points that a set has

module _ (test : PointWatch → Bool) (watches : List PointWatch) (place : ℕ) (was is : PointWatch) (small : place < length watches)
    (read : was ≡ get_or watches place was) where
  -- the set tells of the old watch what the test does
  pub tells_old : (places : PlaceSet) → HasPointsWhere test watches places → (told : Bool) → told ≡ test was → has_place places place ≡ told
  tells_old places h told e =
      let old = get_any watches place small in
      h.is place old.0 old.1 ∙ ap test (sym (read_is watches place was old.0 read old.1)) ∙ sym e

  -- the set is right where the place is set to what the test tells of the new watch
  pub set_those : (old next : PlaceSet) (on : Bool) → HasPointsWhere test watches old → SetsPlace place on old next → on ≡ test is
      → HasPointsWhere test (set watches place is) next
  set_those old next on h sets on_is = record {
    room =
        let size = length-set watches place is in
        let room = h.room in
        let bytes = sets.room in
        omega (arith, size, room, bytes);
    is = λ k watch there.
        ⊎_elim (λ here. ap (has_place next) here.0 ∙ sets.this ∙ on_is ∙ ap test here.1) (λ other. sets.others k other.0 ∙ h.is k watch other.1)
        (get_set watches place k is watch there);
  }

  -- where the test tells the same of both, the set stays right as it is
  pub keep_those : (places : PlaceSet) → HasPointsWhere test watches places → test is ≡ test was → HasPointsWhere test (set watches place is) places
  keep_those places h same =
      set_those places places (test was) h (record { room = refl; this = tells_old places h (test was) refl; others = λ k other. refl }) (sym same)

-- at the start each point is at rest
pub begun : (kept : Retained) (points : List PointPlan) (place : ℕ) (watch : PointWatch) → slice_get (map (point_from kept) points) place ≡ Some watch
    → (is_at_rest watch ≡ true) × (stays_missing watch ≡ false)
begun kept [] place watch there = absurd (cc)
begun kept (point ∷ points) zero watch there =
    let is : point_from kept point ≡ watch = cc in
    (sym (ap is_at_rest is), sym (ap stays_missing is))
begun kept (point ∷ points) (suc place) watch there = begun kept points place watch there

pub begun_those : (kept : Retained) (points : List PointPlan) (watches : List PointWatch) (all : PlaceSet) (none : PlaceSet)
    → watches ≡ map (point_from kept) points → HasFirst (length watches) true all → HasFirst (length watches) false none
    → HasPointsWhere is_at_rest watches all × HasPointsWhere stays_missing watches none
begun_those kept points watches all none made has_all has_none = (
  record {
    room = has_all.room;
    is = λ place watch there.
        has_all.is place (slice_get_within watches place watch there)
        ∙ sym (begun kept points place watch (ap (λ xs. slice_get xs place) (sym made) ∙ there)).0;
  },
  record {
    room = has_none.room;
    is = λ place watch there.
        has_none.is place (slice_get_within watches place watch there)
        ∙ sym (begun kept points place watch (ap (λ xs. slice_get xs place) (sym made) ∙ there)).1;
  },
)

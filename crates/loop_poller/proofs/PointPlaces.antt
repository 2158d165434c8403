-- The places of points in sets.
use Rattle.std.proofs.Common.{◌≡◌, inl, inr, ℕ, ◌<◌, Bool, false, List, length, replicate, length-set, set, slice_index_or, sym, ◌∙◌, ap, arith}
use Rattle.std.proofs.lemmas.Bool.{cases_eq}
use Rattle.std.proofs.lemmas.List.{get_or-replicate, get_or-set_other, get_or-set_same, length-replicate}
use Rattle.site_types.specs.declared.point_state.PointState.{PointState}
use Rattle.site_types.specs.declared.point_state.PointState.TheVariants.{Quiet}
use Rattle.answer_lanes.specs.Places.{HasFirst, SetsPlace, has_place}
use Rattle.answer_lanes.specs.declared.place_set.PlaceSet.{PlaceSet}
use Rattle.loop_poller.specs.PointSets.{HasPointsTelling}

-- a set still has the points that pass a test where one point's state changes
pub those_after : (test : PointState → Bool) (states : List PointState) (old new : PlaceSet) (place : ℕ) (state : PointState) (on : Bool)
    → place < length states → HasPointsTelling test states old → SetsPlace place on old new → on ≡ test state
    → HasPointsTelling test (set states place state) new
those_after test states old new place state on within has sets is =
    let size = length-set states place state in
    let room = has.room in
    let same_room = sets.room in
    record {
      is = λ k below. elim (cases_eq k place) [
        | inl same ↦
            ap (has_place new) same ∙ sets.this ∙ is ∙ ap test (sym (get_or-set_same states place state Quiet within))
            ∙ ap (λ n. test (slice_index_or (set states place state) n Quiet)) (sym same)
        | inr other ↦
            sets.others k other ∙ has.is k (omega (arith, below, size)) ∙ ap test (sym (get_or-set_other states place k state Quiet other))
      ];
      room = omega (arith, room, same_room, size);
    }

-- at the start no point passes a test that a quiet one doesn't pass
pub none_at_first : (test : PointState → Bool) (count : ℕ) (states : List PointState) (those : PlaceSet) → states ≡ replicate count Quiet → test Quiet ≡ false
    → HasFirst count false those → HasPointsTelling test states those
none_at_first test count states those all quiet first =
    let size : length states ≡ count = ap length all ∙ length-replicate count Quiet in
    let room = first.room in
    record {
      is = λ place below.
          let small : place < count = omega (arith, below, size) in
          first.is place small ∙ sym quiet
          ∙ ap test (sym (ap (λ xs. slice_index_or xs place Quiet) all ∙ get_or-replicate count place Quiet Quiet small));
      room = omega (arith, size, room);
    }

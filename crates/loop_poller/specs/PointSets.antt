-- The sets of the points that are in alarm and of those that are gone.
use Rattle.std.specs.Prelude.{◌≡◌, ◌+◌, ◌*◌, ◌<◌, ℕ, Bool, false, true, List, length, slice_index, slice_index_or}
use Rattle.site_types.specs.Bits.{has_bit}
use Rattle.site_types.specs.declared.point_state.PointState.{PointState}
use Rattle.site_types.specs.declared.point_state.PointState.TheVariants.{Quiet, Alarm, Gone}
use Rattle.answer_lanes.specs.Places.{has_place}
use Rattle.answer_lanes.specs.declared.place_set.PlaceSet.{PlaceSet}

-- whether a point in this state tells an alarm
abbrev pub tells_alarm : PointState → Bool
tells_alarm Quiet = false
tells_alarm Alarm = true
tells_alarm Gone = false

-- whether it tells nothing
abbrev pub tells_nothing : PointState → Bool
tells_nothing Quiet = false
tells_nothing Alarm = false
tells_nothing Gone = true

-- a set has the places of the points that pass a test
pub record HasPointsTelling (test : PointState → Bool) (states : List PointState) (set : PlaceSet) : Type 0 where
  pub is : (place : ℕ) → place < length states → has_place set place ≡ test (slice_index_or states place Quiet)
  pub room : length states + 8 < 8 * length set.bytes.items

-- the points in alarm and those that are gone are in two sets
pub record AreInSets (states : List PointState) (alarms gone : PlaceSet) : Type 0 where
  pub alarm : HasPointsTelling tells_alarm states alarms
  pub missing : HasPointsTelling tells_nothing states gone

-- the bits of a word tell which of eight points from each of four places on pass a test, those of the first lowest
abbrev pub TellStates : (PointState → Bool) → List PointState → List ℕ → ℕ → Type 0
TellStates test states firsts word =
    (number k : ℕ) → number < 4 → k < 8 → slice_index firsts number + k < length states
    → has_bit word (8 * number + k) ≡ test (slice_index_or states (slice_index firsts number + k) Quiet)

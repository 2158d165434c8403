-- The points that a set of places has.
use Rattle.std.specs.Prelude.{◌≡◌, ◌+◌, ◌*◌, ◌<◌, ◌≤◌, ◌||◌, ℕ, Bool, List, None, Some, false, length}
use Rattle.std.specs.Prelude.{max, slice_get, slice_index, true}
use Rattle.tick_units.specs.declared.last_done.LastDone.{LastDone}
use Rattle.tick_units.specs.declared.tick.Tick.{Tick}
use Rattle.tick_units.specs.LastTicks.{last_at}
use Rattle.site_types.specs.declared.heard.Heard.TheVariants.{Alarm}
use Rattle.site_types.specs.declared.rule.Rule.TheVariants.{Plain}
use Rattle.site_types.specs.Bits.{has_bit}
use Rattle.answer_lanes.specs.Places.{has_place}
use Rattle.answer_lanes.specs.declared.place_set.PlaceSet.{PlaceSet}
use Rattle.coincidence.specs.declared.point_watch.PointWatch.{PointWatch}
use Rattle.coincidence.specs.declared.zone_watch.ZoneWatch.{ZoneWatch}
use Rattle.coincidence.specs.Parts.{StaysNoted, switch_at}

-- a set has the places of those points of which a test holds
pub record HasPointsWhere (test : PointWatch → Bool) (watches : List PointWatch) (set : PlaceSet) : Type 0 where
  pub room : length watches + 8 < 8 * length set.bytes.items
  pub is : (place : ℕ) (watch : PointWatch) → slice_get watches place ≡ Some watch → has_place set place ≡ test watch

-- the bits of a byte tell of which of eight points, from the first one on, a test holds
abbrev pub TellsEight : (PointWatch → Bool) → List PointWatch → ℕ → ℕ → Type 0
TellsEight test watches first byte =
    (k : ℕ) (watch : PointWatch) → k < 8 → slice_get watches (first + k) ≡ Some watch → has_bit byte k ≡ test watch

-- the bits of a word tell so of eight points from each of four on, those of the first one lowest
abbrev pub TellsEights : (PointWatch → Bool) → List PointWatch → List ℕ → ℕ → Type 0
TellsEights test watches firsts word =
    (number k : ℕ) (watch : PointWatch) → number < 4 → k < 8
    → slice_get watches (slice_index firsts number + k) ≡ Some watch → has_bit word (8 * number + k) ≡ test watch

-- from a tick on each alarm of a detector in a plain zone counts, and leaves what is kept of the detector as it is
pub record GoesOnFrom (since : ℕ) (reset : LastDone) (point : PointWatch) (zone : ZoneWatch) : Type 0 where
  pub detector : point.manual ≡ false
  pub rule : zone.rule ≡ Plain
  pub partner : zone.partner ≡ None
  pub counts : (x : ℕ) → since ≤ x
      → (switch_at x point.off || (switch_at x zone.off || switch_at x zone.test)) ≡ false
  pub stays : (x : ℕ) (floor : Tick) → since ≤ x → floor.0 ≡ max (last_at x reset) (last_at x zone.moved)
      → StaysNoted Alarm true floor point

-- a set has room for all points, and those that it has are detectors in plain zones, of which each alarm from a tick on
-- counts and leaves what is kept of the detector as it is
pub record HasGoingOn (set : PlaceSet) (since : ℕ) (reset : LastDone) (points : List PointWatch)
    (zones : List ZoneWatch) : Type 0 where
  pub room : length points + 8 < 8 * length set.bytes.items
  pub all : (place : ℕ) (point : PointWatch) (zone : ZoneWatch) → has_place set place ≡ true
      → slice_get points place ≡ Some point → slice_get zones point.zone ≡ Some zone → GoesOnFrom since reset point zone

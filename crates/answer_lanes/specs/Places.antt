-- Sets of places.
use Rattle.std.specs.Prelude.{◌≡◌, ◌≢◌, ◌+◌, ◌*◌, ◌/◌, ◌%◌, ◌<◌, ℕ, Bool, false, length, slice_index}
use Rattle.site_types.specs.Bits.{has_bit}
use Rattle.answer_lanes.specs.declared.place_set.PlaceSet.{PlaceSet}

-- whether a set has a place: a bit of its bytes
abbrev pub has_place : PlaceSet → ℕ → Bool
has_place set place = has_bit (slice_index set.bytes.items (place / 8)) (place % 8)

-- a place lies so far before the end of a set that the eight places from it on are places of the set
abbrev pub HasEightFrom : ℕ → PlaceSet → Type 0
HasEightFrom place set = place + 8 < 8 * length set.bytes.items

-- a set has all of the first places, or none of them
pub record HasFirst (count : ℕ) (all : Bool) (set : PlaceSet) : Type 0 where
  pub room : count + 8 < 8 * length set.bytes.items
  pub is : (place : ℕ) → place < count → has_place set place ≡ all

-- one place was put into a set or taken out
pub record SetsPlace (place : ℕ) (on : Bool) (old new' : PlaceSet) : Type 0 where
  pub room : length new'.bytes.items ≡ length old.bytes.items
  pub this : has_place new' place ≡ on
  pub others : (k : ℕ) → k ≢ place → has_place new' k ≡ has_place old k

-- the bits of a byte are eight places of a set, from the first one on
abbrev pub AreEight : PlaceSet → ℕ → ℕ → Type 0
AreEight set first byte = (k : ℕ) → k < 8 → has_bit byte k ≡ has_place set (first + k)

-- a set has no place
abbrev pub HasNone : PlaceSet → Type 0
HasNone set = (place : ℕ) → has_place set place ≡ false

-- all places were taken out of a set
pub record IsCleared (old new' : PlaceSet) : Type 0 where
  pub room : length new'.bytes.items ≡ length old.bytes.items
  pub none : HasNone new'

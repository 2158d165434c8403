-- Who has a fact or a marker as a term, or depends on one that has.
use Rattle.std.specs.Prelude.{◌≡◌, ◌≤◌, ◌⊎◌, ℕ, ◌+◌, ◌==◌, ◌&&◌, ◌||◌, Bool, true, false, List, Option, Some, None}
use Rattle.std.specs.Prelude.{length, slice_get}
use Rattle.std.specs.List.{list_any}
use Rattle.site_types.specs.Bits.{any_below, has_bit}
use Rattle.site_types.specs.declared.site.Site.{Site}
use Rattle.site_types.specs.declared.term.Term.{Term}
use Rattle.marker_table.specs.declared.input.Input.{Input}
use Rattle.marker_table.specs.declared.input.Input.TheVariants.{Zone as ZoneInput, Manual as ManualInput}
use Rattle.marker_table.specs.declared.input.Input.TheVariants.{Fault as FaultInput, Marker as MarkerInput}
use Rattle.marker_table.specs.declared.values.Values.{Values}
use Rattle.marker_table.specs.Equations.{values_of}
use Rattle.marker_table.specs.Table.{input_of}
use Rattle.marker_table.specs.declared.facts.Facts.{Facts}
use Rattle.cause_effect.specs.Cycles.{terms_of, Depends}
use Rattle.cause_effect.specs.Changes.{differ, DependsOnChanged}

-- where in the one table the users of call points, of markers and of faults begin, behind those of the zones, and how
-- many places there are
abbrev pub manual_from : ℕ
manual_from = 256

abbrev pub markers_from : ℕ
markers_from = 512

abbrev pub faults_from : ℕ
faults_from = 768

abbrev pub places : ℕ
places = 776

-- the place of what a term looks at: the zones, their call points, the markers, the panels with their faults
abbrev pub place_of : Input → ℕ
place_of (ZoneInput place) = place
place_of (ManualInput place) = manual_from + place
place_of (MarkerInput place) = markers_from + place
place_of (FaultInput place) = faults_from + place

-- a term looks at what has this place
abbrev pub looks_at : Site → ℕ → Term → Bool
looks_at site place term = place == place_of (input_of site term)

-- a marker has what is at this place as a term
abbrev pub uses : Site → ℕ → ℕ → Bool
uses site m place = list_any (looks_at site place) (terms_of (slice_get site.markers m))

-- of some markers, if there are any, this is one
abbrev pub has_marker : Option Values → ℕ → Bool
has_marker None m = false
has_marker (Some markers) m = values_of markers m

-- a marker is a user of what is at a place
abbrev pub is_user : List Values → ℕ → ℕ → Bool
is_user sets place m = has_marker (slice_get sets place) m

-- one marker is another or depends on it
abbrev pub ComesTo : Site → ℕ → ℕ → Type 0
ComesTo site m user = (m ≡ user) ⊎ Depends site m user

-- the marker at a place of the order is one that has what is at a place as a term, or depends on one that does, this
-- one coming no earlier in the order than a number
pub record IsBelow (site : Site) (order : List ℕ) (from place k : ℕ) : Type 0 where
  pub first : ℕ
  pub late : from ≤ first
  pub user : ℕ
  pub stands : slice_get order first ≡ Some user
  pub looks : uses site user place ≡ true
  pub marker : ℕ
  pub at : slice_get order k ≡ Some marker
  pub comes : ComesTo site marker user

-- the users at each place are, by their places in the order, the markers that depend on what is there through those
-- that come no earlier than a number
pub record AreUsersFrom (site : Site) (order : List ℕ) (from : ℕ) (sets : List Values) : Type 0 where
  pub all : (place k : ℕ) → IsBelow site order from place k → is_user sets place k ≡ true
  pub only : (place k : ℕ) → is_user sets place k ≡ true → IsBelow site order from place k

-- the users at each place are exactly the markers that depend on what is there, by their places in an order of at most
-- 256 markers
pub record AreUsersOf (site : Site) (order : List ℕ) (sets : List Values) : Type 0 where
  pub few : length order ≤ 256
  pub users : AreUsersFrom site order 0 sets

-- a marker and its users, by their places in the order
abbrev pub joins : List Values → ℕ → ℕ → ℕ → Bool
joins sets marker position k = is_user sets (markers_from + marker) k || (k == position)

-- a marker that depends on a fact that changed is at a place of the order
pub record IsMarkedAt (site : Site) (before after : Facts) (order : List ℕ) (k : ℕ) : Type 0 where
  pub marker : ℕ
  pub at : slice_get order k ≡ Some marker
  pub depends : DependsOnChanged site before after marker

-- of the places of the order those are marked whose markers depend on a fact that changed
pub record AreMarksOfChange (site : Site) (before after : Facts) (order : List ℕ) (marks : ℕ → Bool) : Type 0 where
  pub all : (k m : ℕ) → slice_get order k ≡ Some m → DependsOnChanged site before after m → marks k ≡ true
  pub only : (k : ℕ) → marks k ≡ true → IsMarkedAt site before after order k

-- nothing has a user yet, and there is room for those of everything
pub record HasNoUsers (sets : List Values) : Type 0 where
  pub size : length sets ≡ places
  pub none : (place m : ℕ) → is_user sets place m ≡ false

-- a bit that differs in two masks of 32 has the marker among its users, the first bit's being at this place
abbrev pub uses_bit : List Values → ℕ → ℕ → ℕ → ℕ → ℕ → Bool
uses_bit sets first before after m bit = differ (has_bit before bit) (has_bit after bit)
    && is_user sets (first + bit) m

abbrev pub uses_word : List Values → ℕ → ℕ → ℕ → ℕ → Bool
uses_word sets first before after m = any_below 32 (uses_bit sets first before after m)

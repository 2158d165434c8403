-- What is kept of a site's markers.
use Rattle.std.specs.Prelude.{◌≡◌, ◌<◌, ℕ, ◌+◌, ◌-◌, ◌*◌, ◌/◌, ◌%◌, ◌&&◌, Bool, List, [], ◌∷◌, Option}
use Rattle.std.specs.Prelude.{Some, None, map, length, slice_get, slice_index_or, if◌then◌else◌, count_by, sum_by}
use Rattle.std.specs.Prelude.{bit_and, count_ones, nat_lt}
use Rattle.site_types.specs.Bits.{has_bit}
use Rattle.site_types.specs.Valid.{IsValid}
use Rattle.site_types.specs.declared.site.Site.{Site}
use Rattle.site_types.specs.declared.zone.Zone.{Zone}
use Rattle.site_types.specs.declared.marker.Marker.{Marker}
use Rattle.site_types.specs.declared.combine.Combine.{Combine}
use Rattle.site_types.specs.declared.combine.Combine.TheVariants.{All as AllOf, Any, AtLeast}
use Rattle.site_types.specs.declared.term.Term.{Term}
use Rattle.site_types.specs.declared.term.Term.TheVariants.{Zone as ZoneTerm, Manual as ManualTerm}
use Rattle.site_types.specs.declared.term.Term.TheVariants.{Fault as FaultTerm, Marker as MarkerTerm}
use Rattle.marker_table.specs.declared.facts.Facts.{Facts}
use Rattle.marker_table.specs.declared.input.Input.{Input}
use Rattle.marker_table.specs.declared.input.Input.TheVariants.{Zone as ZoneInput, Manual as ManualInput}
use Rattle.marker_table.specs.declared.input.Input.TheVariants.{Fault as FaultInput, Marker as MarkerInput}
use Rattle.marker_table.specs.declared.mask.Mask.{Mask}
use Rattle.marker_table.specs.declared.readings.Readings.{Readings}
use Rattle.marker_table.specs.declared.row.Row.{Row}
use Rattle.marker_table.specs.declared.table.MarkerTable.{MarkerTable}

-- the place of a zone among the 256 of all panels
abbrev pub zone_index : Option Zone → ℕ
zone_index None = 0
zone_index (Some zone) = 32 * (zone.panel - 1) + (zone.number - 1)

-- what a term looks at
abbrev pub input_of : Site → Term → Input
input_of site (ZoneTerm place) = ZoneInput (zone_index (slice_get site.zones place))
input_of site (ManualTerm place) = ManualInput (zone_index (slice_get site.zones place))
input_of site (FaultTerm panel) = FaultInput (panel - 1)
input_of site (MarkerTerm place) = MarkerInput place

-- which of the readings has an input, and its bit there: zones, call points, faults, markers
abbrev pub input_word : Input → ℕ
input_word (ZoneInput place) = place / 32
input_word (ManualInput place) = 8 + place / 32
input_word (FaultInput place) = 16
input_word (MarkerInput place) = 17 + place / 32

abbrev pub input_bit : Input → ℕ
input_bit (ZoneInput place) = place % 32
input_bit (ManualInput place) = place % 32
input_bit (FaultInput place) = place % 32
input_bit (MarkerInput place) = place % 32

-- what readings tell of an input: whether its bit is set in the word that has it
abbrev pub reads : Readings → Input → Bool
reads readings input = has_bit (slice_index_or readings.words (input_word input) 0) (input_bit input)

-- readings have the words of facts
pub record HasFacts (facts : Facts) (readings : Readings) : Type 0 where
  pub size : length readings.words ≡ 32
  pub zones : (k : ℕ) → k < 8 → slice_index_or readings.words k 0 ≡ slice_index_or facts.zones k 0
  pub manual : (k : ℕ) → k < 8 → slice_index_or readings.words (8 + k) 0 ≡ slice_index_or facts.manual k 0
  pub faults : slice_index_or readings.words 16 0 ≡ facts.faults

-- which markers are true in readings, by their places
abbrev pub value_read : Readings → ℕ → Bool
value_read readings m = nat_lt m 256 && has_bit (slice_index_or readings.words (17 + m / 32) 0) (m % 32)

-- readings have these values of the markers
abbrev pub HasValues : (ℕ → Bool) → Readings → Type 0
HasValues values readings = (m : ℕ) → value_read readings m ≡ values m

-- how many inputs of a mask are true
abbrev pub count_in : Readings → Mask → ℕ
count_in readings mask = count_ones (bit_and mask.bits (slice_index_or readings.words (mask.word % 32) 0))

abbrev pub one_if : Bool → ℕ
one_if b = if b then 1 else 0

-- the mask of no input in the word of one
abbrev pub no_mask : Input → Mask
no_mask input = record { word = input_word input; bits = 0 }

-- a mask has one input more than another
abbrev pub AddsInput : Input → Mask → Mask → Type 0
AddsInput input old new = (readings : Readings)
    → count_in readings new ≡ count_in readings old + one_if (reads readings input)

-- a mask has one input more than the mask that stands at a place of a list, and there is one at that place
abbrev pub AddsInputAt : Input → List Mask → ℕ × Mask → Type 0
AddsInputAt input masks (place, new) = (place < length masks)
    × ((old : Mask) → slice_get masks place ≡ Some old → AddsInput input old new)

-- masks have one input more than others
abbrev pub CountsMore : Input → List Mask → List Mask → Type 0
CountsMore input old new = (readings : Readings)
    → sum_by (count_in readings) new ≡ sum_by (count_in readings) old + one_if (reads readings input)

-- how many of so many terms have to hold
abbrev pub needed_of : Combine → ℕ → ℕ
needed_of AllOf terms = terms
needed_of Any terms = 1
needed_of (AtLeast needed) terms = needed

-- a row counts what a marker's terms look at, each as often as it stands among them
pub record IsRowOf (site : Site) (marker : Marker) (row : Row) : Type 0 where
  pub needed : row.needed ≡ needed_of marker.combine (length marker.terms)
  pub counted : (readings : Readings)
      → sum_by (count_in readings) row.masks ≡ count_by (reads readings) (map (input_of site) marker.terms)

-- each row is that of the marker at its place
abbrev pub AreRowsOf : Site → List Marker → List Row → Type 0
AreRowsOf site [] [] = Unit {0}
AreRowsOf site (marker ∷ markers) (row ∷ rows) = IsRowOf site marker row × AreRowsOf site markers rows
AreRowsOf site _ _ = ⊥

-- the table has the row of each marker of a valid site
pub record IsTableOf (site : Site) (table : MarkerTable) : Type 0 where
  pub valid : IsValid site
  pub rows : AreRowsOf site site.markers table.rows

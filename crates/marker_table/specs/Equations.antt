-- What its terms make of a marker.
use Rattle.std.specs.Prelude.{ℕ, ◌-◌, ◌/◌, ◌%◌, Bool, false, List, Option, Some, None, slice_get, slice_index_or}
use Rattle.std.specs.Prelude.{nat_le, count_by}
use Rattle.std.specs.List.{list_all, list_any}
use Rattle.site_types.specs.Bits.{has_bit}
use Rattle.site_types.specs.declared.site.Site.{Site}
use Rattle.site_types.specs.declared.zone.Zone.{Zone}
use Rattle.site_types.specs.declared.marker.Marker.{Marker}
use Rattle.site_types.specs.declared.combine.Combine.{Combine}
use Rattle.site_types.specs.declared.combine.Combine.TheVariants.{All as AllOf, Any, AtLeast}
use Rattle.site_types.specs.declared.term.Term.{Term}
use Rattle.site_types.specs.declared.term.Term.TheVariants.{Zone as ZoneTerm, Manual, Fault, Marker as MarkerTerm}
use Rattle.marker_table.specs.declared.facts.Facts.{Facts}
use Rattle.marker_table.specs.declared.values.Values.{Values}

-- which markers are true, by their places
abbrev pub values_of : Values → ℕ → Bool
values_of values m = has_bit (slice_index_or values.words (m / 32) 0) (m % 32)

-- the bit of a zone, in masks that are one for each panel
abbrev pub zone_bit : List ℕ → Option Zone → Bool
zone_bit masks None = false
zone_bit masks (Some zone) = has_bit (slice_index_or masks (zone.panel - 1) 0) (zone.number - 1)

-- a term holds: its zone is released, a manual call point of its zone is in alarm, its panel has a fault, or
-- its marker is true
abbrev pub holds : Site → Facts → (ℕ → Bool) → Term → Bool
holds site facts values (ZoneTerm place) = zone_bit facts.zones (slice_get site.zones place)
holds site facts values (Manual place) = zone_bit facts.manual (slice_get site.zones place)
holds site facts values (Fault panel) = has_bit facts.faults (panel - 1)
holds site facts values (MarkerTerm other) = values other

-- all of a list pass a test, or any, or at least so many
abbrev pub is_met : {X : Type 0} → Combine → (X → Bool) → List X → Bool
is_met AllOf test xs = list_all test xs
is_met Any test xs = list_any test xs
is_met (AtLeast needed) test xs = nat_le needed (count_by test xs)

-- enough of a marker's terms hold; where there is no marker, nothing does
abbrev pub makes_true : Site → Facts → (ℕ → Bool) → Option Marker → Bool
makes_true site facts values None = false
makes_true site facts values (Some marker) = is_met marker.combine (holds site facts values) marker.terms

-- what its terms make of the marker at a place, over facts and the values of the markers
abbrev pub equation : Site → Facts → (ℕ → Bool) → ℕ → Bool
equation site facts values m = makes_true site facts values (slice_get site.markers m)

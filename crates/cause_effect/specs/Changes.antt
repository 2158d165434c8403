-- Which markers depend on a fact that changed, and how many they are.
use Rattle.std.specs.Prelude.{◌≡◌, ℕ, ◌-◌, ◌==◌, ◌+◌, Bool, true, false, List, not, length, slice_get}
use Rattle.std.specs.List.{list_any, IsDistinct}
use Rattle.site_types.specs.Bits.{has_bit}
use Rattle.site_types.specs.declared.site.Site.{Site}
use Rattle.site_types.specs.declared.term.Term.{Term}
use Rattle.site_types.specs.declared.term.Term.TheVariants.{Zone as ZoneTerm, Manual as ManualTerm}
use Rattle.site_types.specs.declared.term.Term.TheVariants.{Fault as FaultTerm, Marker as MarkerTerm}
use Rattle.marker_table.specs.declared.facts.Facts.{Facts}
use Rattle.marker_table.specs.Equations.{zone_bit}
use Rattle.cause_effect.specs.Cycles.{is_among, has_term, terms_of}

-- one of two truth values holds without the other
abbrev pub differ : Bool → Bool → Bool
differ true b = not b
differ false b = b

-- a term is a fact that changed: the bit of its zone, of the call points of its zone or of its panel's faults
-- differs
abbrev pub is_changed : Site → Facts → Facts → Term → Bool
is_changed site before after (ZoneTerm place) =
    differ (zone_bit before.zones (slice_get site.zones place))
    (zone_bit after.zones (slice_get site.zones place))
is_changed site before after (ManualTerm place) =
    differ (zone_bit before.manual (slice_get site.zones place))
    (zone_bit after.manual (slice_get site.zones place))
is_changed site before after (FaultTerm panel) =
    differ (has_bit before.faults (panel - 1)) (has_bit after.faults (panel - 1))
is_changed site before after (MarkerTerm other) = false

-- a fact that changed is among a marker's terms
abbrev pub has_changed : Site → Facts → Facts → ℕ → Bool
has_changed site before after m =
    list_any (is_changed site before after) (terms_of (slice_get site.markers m))

-- a marker depends on a fact that changed: it has it as a term, or has as a term a marker that depends on one
pub data DependsOnChanged (site : Site) (before after : Facts) : ℕ → Type 0 where
  directly : (m : ℕ) → has_changed site before after m ≡ true → DependsOnChanged site before after m
  through : (m next : ℕ) → has_term site m next ≡ true → DependsOnChanged site before after next
      → DependsOnChanged site before after m

-- so many numbers have a property: a list of that length has each of them once, and no other number
pub record IsNumberOf (IsSo : ℕ → Type 0) (count : ℕ) : Type 0 where
  pub members : List ℕ
  pub once : IsDistinct (λ x y. x == y) members
  pub all : (m : ℕ) → IsSo m → is_among m members ≡ true
  pub only : (m : ℕ) → is_among m members ≡ true → IsSo m
  pub counted : length members ≡ count

-- a count rose by the number of those that are so
abbrev pub RoseByNumberOf : (ℕ → Type 0) → ℕ → ℕ → Type 0
RoseByNumberOf IsSo before after = (count : ℕ) × (after ≡ before + count) × IsNumberOf IsSo count

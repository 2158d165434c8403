-- Which points of a zone are looked at, and the list of a zone's points.
use Rattle.std.specs.Prelude.{◌≡◌, ℕ, Bool, true, not, ◌==◌, List, Option, Some, None, slice_get, length}
use Rattle.site_types.specs.declared.site.Site.{Site}
use Rattle.coincidence_rules.specs.Places.{is_of, is_detector, is_manual}
use Rattle.zone_signals.specs.declared.members.Members.{Members}
use Rattle.zone_signals.specs.declared.kind.Kind.{Kind}
use Rattle.zone_signals.specs.declared.kind.Kind.TheVariants.{Any, Detector, CallPoint}

-- a point is of a kind
abbrev pub fits_kind : Kind → Site → ℕ → Bool
fits_kind Any site point = true
fits_kind Detector site point = is_detector site point
fits_kind CallPoint site point = is_manual site point

-- a point is not the one that is left out, if one is
abbrev pub is_besides : Option ℕ → ℕ → Bool
is_besides None point = true
is_besides (Some other) point = not (other == point)

-- all points of a zone, and no others
pub record AreMembers (site : Site) (zone : ℕ) (places : List ℕ) : Type 0 where
  pub each : (k point : ℕ) → slice_get places k ≡ Some point → is_of site zone point ≡ true
  pub all : (point : ℕ) → is_of site zone point ≡ true → (k : ℕ) × (slice_get places k ≡ Some point)

-- the points of each zone
pub record AreAllMembers (site : Site) (members : List Members) : Type 0 where
  pub whole : length members ≡ length site.zones
  pub each : (zone : ℕ) (of_zone : Members) → slice_get members zone ≡ Some of_zone
      → AreMembers site zone of_zone.places.items

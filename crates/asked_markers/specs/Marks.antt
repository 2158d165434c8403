-- Masks of zones by panel.
use Rattle.std.specs.Prelude.{◌≡◌, ◌≢◌, ◌<◌, ℕ, Bool, List, length, slice_get}
use Rattle.site_types.specs.declared.site.Site.{Site}
use Rattle.marker_table.specs.Equations.{zone_bit}

-- masks have one zone of the site or not, and of its other zones those that they had
pub record SetsZone (site : Site) (place : ℕ) (on : Bool) (old new : List ℕ) : Type 0 where
  pub this : zone_bit new (slice_get site.zones place) ≡ on
  pub others : (other : ℕ) → other < length site.zones → other ≢ place
      → zone_bit new (slice_get site.zones other) ≡ zone_bit old (slice_get site.zones other)

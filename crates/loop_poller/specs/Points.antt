-- What is kept of the points of a loop.
use Rattle.std.specs.Prelude.{◌≡◌, ℕ, ◌-◌, ◌<◌, ◌≤◌, List, length, Option, Some, None, slice_index_or}
use Rattle.site_types.specs.declared.site.Site.{Site}
use Rattle.site_types.specs.Profile.{last_address_of}
use Rattle.loop_poller.specs.Asked.{point_at}

-- the points of a loop, by address
pub record ArePoints (site : Site) (panel line : ℕ) (points : List (Option ℕ)) : Type 0 where
  pub size : length points ≡ last_address_of site.format
  pub each : (address : ℕ) → 1 ≤ address → address ≤ last_address_of site.format
      → slice_index_or points (address - 1) None ≡ point_at site panel line address

-- each point of a loop is one of so many
abbrev pub KnowsPoints : List (Option ℕ) → ℕ → Type 0
KnowsPoints points count = (place point : ℕ) → slice_index_or points place None ≡ Some point → point < count

-- What an Effect turn goes by, as masks by panel and as tests.
use Rattle.std.specs.Prelude.{◌≡◌, ℕ, ◌-◌, ◌<◌, Bool, List, length, slice_get}
use Rattle.site_types.specs.declared.site.Site.{Site}
use Rattle.site_types.specs.Bits.{has_bit}
use Rattle.site_types.specs.Valid.{IsPanel}
use Rattle.marker_table.specs.declared.facts.Facts.{Facts as Masks}
use Rattle.marker_table.specs.Equations.{zone_bit}
use Rattle.panel_rules.specs.Markers.{Facts}

-- masks by panel have the zones of the site that pass a test
abbrev pub AreZones : Site → (ℕ → Bool) → List ℕ → Type 0
AreZones site test masks = (zone : ℕ) → zone < length site.zones
    → zone_bit masks (slice_get site.zones zone) ≡ test zone

-- masks are the facts, for the zones and panels of the site
pub record AreFacts (site : Site) (facts : Facts) (masks : Masks) : Type 0 where
  pub released : AreZones site facts.released masks.zones
  pub by_hand : AreZones site facts.by_hand masks.manual
  pub faulty : (panel : ℕ) → IsPanel site panel → has_bit masks.faults (panel - 1) ≡ facts.faulty panel

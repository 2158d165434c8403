-- What of a valid site the rules of coincidence rely on: how points, zones and partners belong together.
use Rattle.std.specs.Prelude.{◌≡◌, ◌≢◌, ℕ, IsTrue, Some, slice_get}
use Rattle.site_types.specs.declared.site.Site.{Site}
use Rattle.site_types.specs.declared.point.Point.{Point}
use Rattle.site_types.specs.declared.zone.Zone.{Zone}
use Rattle.site_types.specs.Bits.{IsPlace}
use Rattle.site_types.specs.Changes.{IsPanelNumber, IsNumber}
use Rattle.site_types.specs.Valid.{HasZone, is_partner_type}

-- the partner of a zone has it as its own, and is another zone of its panel and type
pub record HasPartner (site : Site) (place : ℕ) (zone : Zone) (other : ℕ) : Type 0 where
  pub partner : Zone
  pub is : slice_get site.zones other ≡ Some partner
  pub at_panel : partner.panel ≡ zone.panel
  pub back : partner.partner ≡ Some place
  pub type : IsTrue (is_partner_type zone.rule partner.rule)
  pub apart : other ≢ place

pub record IsWired (site : Site) : Type 0 where
  pub points : (place : ℕ) (point : Point) → slice_get site.points place ≡ Some point
      → IsPanelNumber point.panel × IsPlace point.line point.address
  pub zoned : (place : ℕ) (point : Point) → slice_get site.points place ≡ Some point
      → HasZone site point.panel point.zone
  pub zones : (place : ℕ) (zone : Zone) → slice_get site.zones place ≡ Some zone
      → IsPanelNumber zone.panel × IsNumber zone.number
  pub numbered : (i j : ℕ) (one other : Zone) → slice_get site.zones i ≡ Some one
      → slice_get site.zones j ≡ Some other → one.panel ≡ other.panel → one.number ≡ other.number → i ≡ j
  pub partners : (place other : ℕ) (zone : Zone) → slice_get site.zones place ≡ Some zone
      → zone.partner ≡ Some other → HasPartner site place zone other

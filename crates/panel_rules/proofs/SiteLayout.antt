-- What a valid site says of where its points and zones are.
use Rattle.std.specs.Prelude.{◌≡◌, ℕ, ◌≤◌, Some, slice_get}
use Rattle.site_types.specs.declared.point.Point.{Point}
use Rattle.site_types.specs.declared.site.Site.{Site}
use Rattle.site_types.specs.declared.zone.Zone.{Zone}
use Rattle.site_types.specs.Profile.{last_address_of}
use Rattle.loop_poller.specs.Asked.{point_at}
use Rattle.panel_rules.specs.Moments.{IsPanel}
use Rattle.panel_rules.specs.Zones.{panel_of_zone}

-- a point stands alone at its address, within its loop's round, at the panel of its zone
pub record PointLies (site : Site) (point : ℕ) (plan : Point) : Type 0 where
  pub panel : IsPanel site.panels plan.panel
  pub line : (1 ≤ plan.line) × (plan.line ≤ 4)
  pub address : (1 ≤ plan.address) × (plan.address ≤ last_address_of site.format)
  pub alone : point_at site plan.panel plan.line plan.address ≡ Some point
  pub zone : panel_of_zone site plan.zone ≡ plan.panel

pub record IsLaidOut (site : Site) : Type 0 where
  pub format : (1 ≤ site.format) × (site.format ≤ 2)
  pub points : (point : ℕ) (plan : Point) → slice_get site.points point ≡ Some plan → PointLies site point plan
  pub partners : (zone other : ℕ) (plan : Zone) → slice_get site.zones zone ≡ Some plan → plan.partner ≡ Some other
      → panel_of_zone site other ≡ plan.panel

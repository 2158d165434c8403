-- What is kept of the settings that block points.
use Rattle.std.specs.Prelude.{List, length}
use Rattle.site_types.specs.declared.retained.Retained.{Retained}
use Rattle.site_types.specs.declared.site.Site.{Site}
use Rattle.site_types.specs.Done.{Done, PointOff, ZoneOff, InTest}
use Rattle.blocked_points.specs.declared.blocked_settings.BlockedSettings.{BlockedSettings}
use Rattle.blocked_points.specs.Blocks.{AreBlockFlags}
use Rattle.blocked_points.specs.Operations.{value_behind}

-- the settings once all of these operations were done
pub record BlocksStand (site : Site) (kept : Retained) (done : List Done) (blocked : BlockedSettings) : Type 0 where
  pub points : AreBlockFlags (length site.points) (λ place. value_behind site kept done (PointOff place))
      blocked.points_off.items
  pub zones : AreBlockFlags (length site.zones) (λ place. value_behind site kept done (ZoneOff place))
      blocked.zones_off.items
  pub tests : AreBlockFlags (length site.zones) (λ place. value_behind site kept done (InTest place))
      blocked.tests.items

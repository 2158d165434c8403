-- What is known of a site's points when a tick begins.
use Rattle.std.specs.Prelude.{ℕ, List}
use Rattle.site_types.specs.declared.retained.Retained.{Retained}
use Rattle.site_types.specs.declared.site.Site.{Site}
use Rattle.site_types.specs.Done.{Done}
use Rattle.site_types.specs.Valid.{IsValid}
use Rattle.panel_rules.specs.Moments.{Moment}
use Rattle.point_runs.specs.declared.point_run.PointRun.{PointRun}
use Rattle.zone_signals.specs.declared.members.Members.{Members}
use Rattle.zone_signals.specs.Kinds.{AreAllMembers}
use Rattle.zone_signals.specs.Rounds.{AreRuns}

-- the site is valid, the points of each zone are listed, and of each point the run is told
pub record ArePointsKnown (site : Site) (kept : Retained) (done : List Done) (moments : List Moment) (now : ℕ) (members
    : List Members) (runs : List PointRun) : Type 0 where
  pub valid : IsValid site
  pub listed : AreAllMembers site members
  pub told : AreRuns site kept done moments now runs

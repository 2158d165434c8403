-- From which tick on two panels were joined for so long that a word came from one to the other
-- and acted there.
use Rattle.std.specs.Prelude.{ℕ, ◌+◌, ◌-◌, ◌≤◌, List}
use Rattle.site_types.specs.declared.site.Site.{Site}
use Rattle.site_types.specs.Profile.{spread_of}
use Rattle.panel_rules.specs.Moments.{Moment, tick_of}
use Rattle.panel_rules.specs.Ring.{AreJoined}

pub record IsWindow (site : Site) (moments : List Moment) (one other first : ℕ) : Type 0 where
  pub past : first + spread_of site.format ≤ tick_of moments
  pub joined : AreJoined site.panels moments one other first (first + spread_of site.format - 1)

-- Which stamps a panel may have heard of another by the end of a tick, whatever the orders of turns.
use Rattle.std.specs.Prelude.{ℕ, ◌+◌, ◌-◌, ◌≤◌, List}
use Rattle.site_types.specs.declared.site.Site.{Site}
use Rattle.site_types.specs.Profile.{network_of}
use Rattle.panel_rules.specs.Moments.{Moment, tick_of}
use Rattle.panel_rules.specs.Ring.{AreJoined}

-- the first of the latest ticks in which a word comes to each panel that is joined throughout
abbrev pub network_start : Site → ℕ → ℕ
network_start site tick = tick - network_of site.format + 1

-- a panel may have heard a stamp of another one: the stamp is not later than now, and where the two have been joined
-- for the ticks in which a word comes to each panel, it isn't older than so many ticks. A panel is joined to itself
pub record MayBeHeard (site : Site) (moments : List Moment) (panel source stamp : ℕ) : Type 0 where
  pub past : stamp ≤ tick_of moments
  pub recent : AreJoined site.panels moments source panel (network_start site (tick_of moments)) (tick_of moments)
      → tick_of moments ≤ stamp + network_of site.format

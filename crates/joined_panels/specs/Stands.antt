-- What is kept of the ticks that were taken, the newest first.
use Rattle.std.specs.Prelude.{◌≡◌, ℕ, Bool, List, length}
use Rattle.site_types.specs.declared.site.Site.{Site}
use Rattle.site_types.specs.Profile.{spread_of}
use Rattle.panel_rules.specs.Moments.{TickBlock, moments, up_to}
use Rattle.panel_rules.specs.States.{is_up}
use Rattle.joined_panels.specs.declared.joined_panels.JoinedPanels.{JoinedPanels}
use Rattle.joined_panels.specs.Links.{HasLinks, has_way_up}
use Rattle.joined_panels.specs.Stretches.{KnowsWays}

-- whether each link on the way up from one panel to another was up at a tick
abbrev pub was_way_up : Site → List TickBlock → ℕ → ℕ → ℕ → Bool
was_way_up site ticks from to tick =
    has_way_up (λ link. is_up link (up_to tick (moments ticks))) site.panels from to

pub record StandsFor (site : Site) (ticks : List TickBlock) (joined : JoinedPanels) : Type 0 where
  pub panels : joined.links.panels ≡ site.panels
  pub spread : joined.spread ≡ spread_of site.format
  pub now : joined.latest.0 ≡ length ticks
  pub links : HasLinks (moments ticks) joined.links
  pub ways : KnowsWays (was_way_up site ticks) joined.spread joined.latest.0 joined.ways

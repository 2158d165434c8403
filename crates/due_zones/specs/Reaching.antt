-- Whether a signal that counts from a tick on has come to a panel.
use Rattle.std.specs.Prelude.{◌≡◌, ◌↔◌, ◌==◌, ◌+◌, ◌≤◌, ℕ, Bool, true, IsTrue, List, Option, Some, None}
use Rattle.site_types.specs.declared.retained.Retained.{Retained}
use Rattle.site_types.specs.declared.site.Site.{Site}
use Rattle.site_types.specs.Done.{Done}
use Rattle.site_types.specs.Profile.{settled_of, signal_of}
use Rattle.site_types.specs.Valid.{IsValid}
use Rattle.panel_rules.specs.Due.{IsDueAfter}
use Rattle.panel_rules.specs.Moments.{Moment, tick_of}
use Rattle.panel_rules.specs.Zones.{panel_of_zone}
use Rattle.joined_panels.specs.Latest.{IsLatestTick}
use Rattle.joined_panels.specs.Windows.{IsWindow}
use Rattle.due_zones.specs.declared.reach.Reach.{Reach}

-- what a panel hears of the panel of a zone
pub record HasReach (site : Site) (moments : List Moment) (zone panel : ℕ) (reach : Reach) : Type 0 where
  pub format : reach.format ≡ site.format
  pub tick : reach.tick ≡ tick_of moments
  pub own : reach.own ≡ (panel_of_zone site zone == panel)
  pub window : IsLatestTick (IsWindow site moments (panel_of_zone site zone) panel) reach.window

-- a signal that counts from a tick on is due on the zone's own panel
abbrev pub IsHome : Reach → ℕ → Type 0
IsHome reach settled = (reach.own ≡ true) × (settled + signal_of reach.format ≤ reach.tick)

-- a signal that counts from a tick on had settled when the last window began in which a word came round the ring
abbrev pub CameRound : ℕ → ℕ → Option ℕ → Type 0
CameRound format settled None = ⊥
CameRound format settled (Some first) = settled + settled_of format ≤ first

-- there is a signal of a zone, and it is due at a panel
abbrev pub IsDueFrom : Site → Retained → List Done → List Moment → ℕ → ℕ → Option ℕ → Type 0
IsDueFrom site kept done moments zone panel None = ⊥
IsDueFrom site kept done moments zone panel (Some settled) = IsDueAfter site kept done moments zone panel settled

-- whether there is a signal of a zone and it is due at a panel, at whatever site and in whatever run the panel hears
-- this of the zone's panel
abbrev pub TellsReached : Reach → Option ℕ → Bool → Type 0
TellsReached reach settled result =
    (site : Site) (kept : Retained) (done : List Done) (moments : List Moment) (zone panel : ℕ) → IsValid site
    → HasReach site moments zone panel reach → IsTrue result ↔ IsDueFrom site kept done moments zone panel settled

-- What a panel that runs by itself shows of its own zones in each run of a valid site, whatever the order of turns and
-- whatever comes in frames.
use Rattle.std.specs.Prelude.{◌≡◌, ◌⊎◌, ◌-◌, ℕ, true, List, Some, slice_get, slice_index}
use Rattle.site_types.specs.declared.retained.Retained.{Retained}
use Rattle.site_types.specs.declared.site.Site.{Site}
use Rattle.site_types.specs.declared.zone.Zone.{Zone}
use Rattle.panel_rules.specs.Caused.{IsCausedAt}
use Rattle.panel_rules.specs.Due.{IsDue, LoneSignals}
use Rattle.panel_rules.specs.Moments.{IsPanel, tick_of}
use Rattle.panel_rules.specs.Timeline.{face_of}
use Rattle.panel_laws.specs.FaceLaws.{HasEnded, shows_first, shows_zone}
use Rattle.node_rules.specs.Histories.{NodeMoment, befallen}
use Rattle.node_rules.specs.Nodes.{node_done, node_face}

-- the zones in alarm and in first state that the panel shows of its own are those that it would show in the ring after
-- the same moments, whatever came
pub record OwnZonesAlike (site : Site) (panel : ℕ) (kept : Retained) (history : List NodeMoment) : Type 0 where
  pub zones : slice_index (node_face site panel history kept).zones (panel - 1)
      ≡ slice_index (face_of site kept panel (befallen history)).zones (panel - 1)
  pub firsts : slice_index (node_face site panel history kept).firsts (panel - 1)
      ≡ slice_index (face_of site kept panel (befallen history)).firsts (panel - 1)

-- for each history of each site, whether it is a run or not
abbrev pub OwnZonesOfTheRing : Type 0
OwnZonesOfTheRing = (site : Site) (panel : ℕ) (kept : Retained) (history : List NodeMoment) → IsPanel 8 panel
    → OwnZonesAlike site panel kept history

-- a zone that is due at its own panel is shown in the face of that panel
abbrev pub DueAtNodeIsShown : Type 0
DueAtNodeIsShown =
    (site : Site) (kept : Retained) (history : List NodeMoment) (zone : ℕ) (plan : Zone)
    → HasEnded site (befallen history) → slice_get site.zones zone ≡ Some plan
    → IsDue site kept (node_done site plan.panel history kept) (befallen history) zone plan.panel
    → shows_zone (node_face site plan.panel history kept) plan ≡ true

-- a zone that its own panel shows is caused: an answer confirmed it, and no floor undid it
abbrev pub ShownAtNodeIsCaused : Type 0
ShownAtNodeIsCaused =
    (site : Site) (kept : Retained) (history : List NodeMoment) (zone : ℕ) (plan : Zone)
    → HasEnded site (befallen history) → slice_get site.zones zone ≡ Some plan
    → shows_zone (node_face site plan.panel history kept) plan ≡ true
    → IsCausedAt site kept (node_done site plan.panel history kept) (befallen history) zone
    (tick_of (befallen history))

-- a zone of type B with one lasting signal is shown in alarm or in first state, until its time ends
abbrev pub LoneAtNodeIsShown : Type 0
LoneAtNodeIsShown =
    (site : Site) (kept : Retained) (history : List NodeMoment) (zone : ℕ) (plan : Zone)
    → HasEnded site (befallen history) → slice_get site.zones zone ≡ Some plan
    → LoneSignals site kept (node_done site plan.panel history kept) (befallen history) zone
    (tick_of (befallen history))
    → (shows_zone (node_face site plan.panel history kept) plan ≡ true)
    ⊎ (shows_first (node_face site plan.panel history kept) plan ≡ true)

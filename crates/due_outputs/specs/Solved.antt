-- The markers of each panel, solved over the zones that are due there.
use Rattle.std.specs.Prelude.{◌≡◌, ℕ, List, length, Some, slice_get}
use Rattle.site_types.specs.declared.site.Site.{Site}
use Rattle.marker_table.specs.declared.facts.Facts.{Facts as Masks}
use Rattle.asked_markers.specs.Solved.{GoesBy}
use Rattle.due_zones.specs.declared.due_zones.DueZones.{DueZones}
use Rattle.due_outputs.specs.declared.panel_markers.PanelMarkers.{PanelMarkers}

-- what is due to be released and by hand, as facts
abbrev pub out_due : DueZones → Masks
out_due zones = record { zones = zones.out; manual = zones.by_hand; faults = 0 }

-- what is due by hand, as both kinds of facts
abbrev pub hands_due : DueZones → Masks
hands_due zones = record { zones = zones.by_hand; manual = zones.by_hand; faults = 0 }

-- the markers of a panel are solved over their facts, whichever these are
pub record AreSolved (site : Site) (markers : PanelMarkers) : Type 0 where
  pub out : GoesBy site markers.out.facts markers.out
  pub hand : GoesBy site markers.hand.facts markers.hand

-- the markers of a panel are solved over what is due to be released and by hand, and over what is due by hand alone
pub record GoByDue (site : Site) (zones : DueZones) (markers : PanelMarkers) : Type 0 where
  pub out : GoesBy site (out_due zones) markers.out
  pub hand : GoesBy site (hands_due zones) markers.hand

-- the markers of each of 8 panels are solved over their facts, whichever these are
pub record HaveSolved (site : Site) (panels : List PanelMarkers) : Type 0 where
  pub size : length panels ≡ 8
  pub each : (place : ℕ) (markers : PanelMarkers) → slice_get panels place ≡ Some markers → AreSolved site markers

pub record HaveGone (site : Site) (due : List DueZones) (panels : List PanelMarkers) : Type 0 where
  pub size : length panels ≡ 8
  pub each : (place : ℕ) (zones : DueZones) (markers : PanelMarkers) → slice_get due place ≡ Some zones
      → slice_get panels place ≡ Some markers → GoByDue site zones markers

-- Masks of the zones that are due at a panel.
use Rattle.std.specs.Prelude.{◌≡◌, ◌↔◌, ◌<◌, ◌+◌, ◌-◌, ℕ, true, List, length, Some, slice_get}
use Rattle.site_types.specs.declared.retained.Retained.{Retained}
use Rattle.site_types.specs.declared.site.Site.{Site}
use Rattle.site_types.specs.Done.{Done}
use Rattle.site_types.specs.Valid.{IsPanel}
use Rattle.marker_table.specs.Equations.{zone_bit}
use Rattle.panel_rules.specs.Due.{IsDue, IsDueOut, IsDueByHand}
use Rattle.panel_rules.specs.Moments.{Moment, TickBlock, moments as moments_of}
use Rattle.joined_panels.specs.declared.joined_panels.JoinedPanels.{JoinedPanels}
use Rattle.joined_panels.specs.Stands.{StandsFor}
use Rattle.asked_markers.specs.FactsTold.{TellZones}
use Rattle.due_zones.specs.Deciding.{AreAllDecisive, AreDecisive}
use Rattle.due_zones.specs.declared.due_zones.DueZones.{DueZones}
use Rattle.due_zones.specs.declared.least_signals.LeastSignals.{LeastSignals}

-- the zones that are due at a panel: to be shown, released, and by hand
pub record AreDueZones (site : Site) (kept : Retained) (done : List Done) (moments : List Moment) (panel : ℕ)
    (due : DueZones) : Type 0 where
  pub shown : TellZones site (λ zone. IsDue site kept done moments zone panel) due.shown
  pub out : TellZones site (λ zone. IsDueOut site kept done moments zone panel) due.out
  pub by_hand : TellZones site (λ zone. IsDueByHand site kept done moments zone panel) due.by_hand

-- masks have the zones below a place of which something holds, and no other zone of the site
abbrev pub TellBelow : Site → (ℕ → Type 0) → ℕ → List ℕ → Type 0
TellBelow site Holds place masks = (zone : ℕ) → zone < length site.zones
    → (zone_bit masks (slice_get site.zones zone) ≡ true) ↔ ((zone < place) × Holds zone)

-- the zones below a place that are due at a panel
pub record AreDueBelow (site : Site) (kept : Retained) (done : List Done) (moments : List Moment) (panel place : ℕ)
    (due : DueZones) : Type 0 where
  pub shown : TellBelow site (λ zone. IsDue site kept done moments zone panel) place due.shown
  pub out : TellBelow site (λ zone. IsDueOut site kept done moments zone panel) place due.out
  pub by_hand : TellBelow site (λ zone. IsDueByHand site kept done moments zone panel) place due.by_hand

-- the zone at a place comes to those below it, by its signals
abbrev pub TellsOneMore : Site → JoinedPanels → ℕ → LeastSignals → ℕ → ℕ → DueZones → DueZones → Type 0
TellsOneMore site joined now signals panel place old new =
    (kept : Retained) (done : List Done) (ticks : List TickBlock) → StandsFor site ticks joined
    → now ≡ length ticks → AreDecisive site kept done (moments_of ticks) place signals
    → AreDueBelow site kept done (moments_of ticks) panel place old
    → AreDueBelow site kept done (moments_of ticks) panel (place + 1) new

-- at the end of the ticks for which it stands which panels are joined, by the least signals of the zones then
abbrev pub TellsDue : Site → JoinedPanels → ℕ → List LeastSignals → ℕ → DueZones → Type 0
TellsDue site joined now signals panel due =
    (kept : Retained) (done : List Done) (ticks : List TickBlock) → StandsFor site ticks joined
    → now ≡ length ticks → AreAllDecisive site kept done (moments_of ticks) signals
    → AreDueZones site kept done (moments_of ticks) panel due

-- the zones that are due at each panel of the site, by panel
abbrev pub AreDueAtEach : Site → Retained → List Done → List Moment → List DueZones → Type 0
AreDueAtEach site kept done moments each = (panel : ℕ) (due : DueZones) → IsPanel site panel
    → slice_get each (panel - 1) ≡ Some due → AreDueZones site kept done moments panel due

abbrev pub TellsDueAtEach : Site → JoinedPanels → ℕ → List LeastSignals → List DueZones → Type 0
TellsDueAtEach site joined now signals each =
    (kept : Retained) (done : List Done) (ticks : List TickBlock) → StandsFor site ticks joined
    → now ≡ length ticks → AreAllDecisive site kept done (moments_of ticks) signals
    → AreDueAtEach site kept done (moments_of ticks) each

use Rattle.std.proofs.Common.{◌≡◌, ℕ, ◌≤◌, List, length, None}
use Rattle.site_types.specs.declared.retained.Retained.{Retained}
use Rattle.face_text.specs.declared.timeline.Timeline.{Timeline}
use Rattle.panel_rules.specs.Moments.{TickBlock, moments as moments_of}
use Rattle.blocked_points.specs.declared.done_operation.DoneOperation.{DoneOperation}
use Rattle.blocked_points.specs.Operations.{done_newest_first}
use Rattle.joined_panels.specs.Stands.{StandsFor as JoinedStandsFor}
use Rattle.shown_causes.specs.Heard.{StandsFor as CausesStand}
use Rattle.panel_audit.specs.Broken.{IsUncaused}
use Rattle.panel_audit.specs.Numbers.{AreZoneNumbers}
use Rattle.panel_audit.specs.Places.{FirstPlace}
use Rattle.panel_audit.specs.Scans.{AreFacesAfter}
use Rattle.panel_audit.proofs.uncaused.uncaused_zone.Given as goal

-- no panel before a place shows a zone that can have no cause
abbrev pub invariant-loop-place : goal.invariant-loop-place
invariant-loop-place l = (length l.marks ≡ length l.zones)
    × ((kept : Retained) (operations : List DoneOperation) (timeline : Timeline) (ticks : List TickBlock) → AreZoneNumbers l.site.zones l.zones
    → CausesStand l.site kept operations timeline ticks l.causes → JoinedStandsFor l.site ticks l.joined → AreFacesAfter timeline (length ticks) l.faces
    → (panel : ℕ) → 1 ≤ panel → panel ≤ l.place
    → FirstPlace l.zones (IsUncaused l.site kept (done_newest_first operations) timeline (moments_of ticks) panel) None)

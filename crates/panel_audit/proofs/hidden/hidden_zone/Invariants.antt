use Rattle.std.proofs.Common.{◌≡◌, ℕ, ◌≤◌, List, length, None}
use Rattle.site_types.specs.declared.retained.Retained.{Retained}
use Rattle.site_types.specs.Done.{Done}
use Rattle.face_text.specs.declared.timeline.Timeline.{Timeline}
use Rattle.panel_rules.specs.Moments.{Moment, tick_of}
use Rattle.due_zones.specs.Telling.{AreDueAtEach}
use Rattle.panel_audit.specs.Broken.{IsHidden}
use Rattle.panel_audit.specs.Numbers.{AreZoneNumbers}
use Rattle.panel_audit.specs.Places.{FirstPlace}
use Rattle.panel_audit.specs.Scans.{AreFacesAfter}
use Rattle.panel_audit.proofs.hidden.hidden_zone.Given as goal

-- no panel before a place hides a zone
abbrev pub invariant-loop-place : goal.invariant-loop-place
invariant-loop-place l = (length l.marks ≡ length l.zones)
    × ((kept : Retained) (done : List Done) (timeline : Timeline) (moments : List Moment) → AreZoneNumbers l.site.zones l.zones → length l.due ≡ 8
    → AreDueAtEach l.site kept done moments l.due → AreFacesAfter timeline (tick_of moments) l.faces → (panel : ℕ) → 1 ≤ panel → panel ≤ l.place
    → FirstPlace l.zones (IsHidden l.site kept done timeline moments panel) None)

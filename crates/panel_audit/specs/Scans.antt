-- What is found broken, whatever befell.
use Rattle.std.specs.Prelude.{◌≡◌, ◌↔◌, ℕ, Bool, true, List, Option, Some, length, slice_get}
use Rattle.std.specs.Prelude.{◌≡◌, ◌≢◌, ◌↔◌, ◌+◌, ℕ, Bool, true, List, Option, Some, length, slice_get, slice_index_or}
use Rattle.site_types.specs.declared.retained.Retained.{Retained}
use Rattle.site_types.specs.declared.site.Site.{Site}
use Rattle.site_types.specs.Done.{Done}
use Rattle.cause_effect.specs.Cycles.{HasNoCycle}
use Rattle.face_text.specs.declared.face.Face.{Face}
use Rattle.face_text.specs.declared.timeline.Timeline.{Timeline}
use Rattle.face_text.specs.Faces.{empty_face}
use Rattle.panel_rules.specs.Moments.{Moment, TickBlock, moments as moments_of, tick_of}
use Rattle.audit_rules.specs.CanCause.{CanBeShown}
use Rattle.audit_rules.specs.Shown.{faces_after}
use Rattle.blocked_points.specs.declared.done_operation.DoneOperation.{DoneOperation}
use Rattle.blocked_points.specs.Operations.{done_newest_first}
use Rattle.joined_panels.specs.declared.joined_panels.JoinedPanels.{JoinedPanels}
use Rattle.joined_panels.specs.Stands.{StandsFor as JoinedStandsFor}
use Rattle.asked_markers.specs.declared.asked_markers.AskedMarkers.{AskedMarkers}
use Rattle.asked_markers.specs.Solved.{GoesBy}
use Rattle.due_zones.specs.declared.due_zones.DueZones.{DueZones}
use Rattle.due_zones.specs.Telling.{AreDueAtEach}
use Rattle.due_outputs.specs.declared.due_outputs.DueOutputs.{DueOutputs}
use Rattle.due_outputs.specs.Stands.{StandsFor as DuesStand}
use Rattle.excused_outputs.specs.declared.excused_outputs.ExcusedOutputs.{ExcusedOutputs}
use Rattle.excused_outputs.specs.Excused.{StandsFor as ExcusedStand}
use Rattle.shown_causes.specs.declared.shown_causes.ShownCauses.{ShownCauses}
use Rattle.shown_causes.specs.Heard.{StandsFor as CausesStand, TellsHeard}
use Rattle.panel_audit.specs.declared.found.Found.{Found}
use Rattle.panel_audit.specs.declared.numbered.Numbered.{Numbered}
use Rattle.panel_audit.specs.Broken.{IsBaseless, IsDark, IsHidden, IsUncaused}
use Rattle.panel_audit.specs.Lowest.{is_in_masks}
use Rattle.panel_audit.specs.Numbers.{AreOutputNumbers, AreZoneNumbers}
use Rattle.panel_audit.specs.Places.{FirstFound, FirstPlace}

-- the faces are those of a text after a tick
abbrev pub AreFacesAfter : Timeline → ℕ → List Face → Type 0
AreFacesAfter timeline tick faces = faces ≡ faces_after tick timeline.opened timeline.steps

-- a zone that is due at a panel that doesn't show it
abbrev pub ScansHidden : Site → List Numbered → List DueZones → List Face → Option Found → Type 0
ScansHidden site zones due faces found =
    (kept : Retained) (done : List Done) (timeline : Timeline) (moments : List Moment) → AreZoneNumbers site.zones zones
    → length due ≡ 8 → AreDueAtEach site kept done moments due → AreFacesAfter timeline (tick_of moments) faces
    → FirstFound zones (IsHidden site kept done timeline moments) site.panels found

-- whether masks show a zone that can have no cause at a panel
abbrev pub MarksUncaused : Site → List Numbered → ShownCauses → JoinedPanels → ℕ → List ℕ → ℕ → Bool → Type 0
MarksUncaused site zones causes joined panel shown place mark =
    (kept : Retained) (operations : List DoneOperation) (timeline : Timeline) (ticks : List TickBlock)
    (thing : Numbered) → AreZoneNumbers site.zones zones → CausesStand site kept operations timeline ticks causes
    → JoinedStandsFor site ticks joined → slice_get zones place ≡ Some thing
    → (mark ≡ true) ↔ ((is_in_masks shown thing ≡ true)
    × ¬ CanBeShown site timeline kept (done_newest_first operations) (moments_of ticks) panel place)

-- a zone that a panel shows and that can have no cause
abbrev pub ScansUncaused : Site → List Numbered → ShownCauses → JoinedPanels → List Face → Option Found → Type 0
ScansUncaused site zones causes joined faces found =
    (kept : Retained) (operations : List DoneOperation) (timeline : Timeline) (ticks : List TickBlock)
    → AreZoneNumbers site.zones zones → CausesStand site kept operations timeline ticks causes
    → JoinedStandsFor site ticks joined → AreFacesAfter timeline (length ticks) faces
    → FirstFound zones (IsUncaused site kept (done_newest_first operations) timeline (moments_of ticks)) site.panels
    found

-- whether the output at a place is due to be on and isn't
abbrev pub TellsDark : Site → DueOutputs → ExcusedOutputs → List Face → ℕ → Bool → Type 0
TellsDark site dues excused faces place result =
    (kept : Retained) (operations : List DoneOperation) (timeline : Timeline) (ticks : List TickBlock)
    → DuesStand site kept (done_newest_first operations) ticks dues
    → ExcusedStand site kept operations (length ticks) excused → AreFacesAfter timeline (length ticks) faces
    → (result ≡ true) ↔ IsDark site kept (done_newest_first operations) timeline (moments_of ticks) place

-- the first output that is due to be on and isn't, or none
abbrev pub ScansDark : Site → List Numbered → DueOutputs → ExcusedOutputs → List Face → Option ℕ → Type 0
ScansDark site outputs dues excused faces found =
    (kept : Retained) (operations : List DoneOperation) (timeline : Timeline) (ticks : List TickBlock)
    → AreOutputNumbers site.outputs outputs → DuesStand site kept (done_newest_first operations) ticks dues
    → ExcusedStand site kept operations (length ticks) excused → AreFacesAfter timeline (length ticks) faces
    → FirstPlace outputs (IsDark site kept (done_newest_first operations) timeline (moments_of ticks)) found

-- the markers of each panel are solved over some facts
pub record HeardSolved (site : Site) (heard : List AskedMarkers) : Type 0 where
  pub size : length heard ≡ 8
  pub each : (place : ℕ) (asked : AskedMarkers) → slice_get heard place ≡ Some asked → GoesBy site asked.facts asked

-- the markers of the panel at a place are solved over some facts, and where the panel shows an output as on, these
-- facts are all that it may have heard
pub record IsHeardAt (site : Site) (causes : ShownCauses) (joined : JoinedPanels) (faces : List Face) (place : ℕ)
    (asked : AskedMarkers) : Type 0 where
  pub solved : GoesBy site asked.facts asked
  pub told : (slice_index_or faces place (empty_face (place + 1))).outputs ≢ 0
      → TellsHeard causes joined site (place + 1) asked.facts

-- the markers of each panel are solved over some facts, and where the panel shows an output as on, these facts are all
-- that it may have heard
pub record HaveHeard (site : Site) (causes : ShownCauses) (joined : JoinedPanels) (faces : List Face) (heard : List
    AskedMarkers) : Type 0 where
  pub size : length heard ≡ 8
  pub each : (place : ℕ) (asked : AskedMarkers) → slice_get heard place ≡ Some asked
      → IsHeardAt site causes joined faces place asked

-- whether the output at a place is on and can have no cause
abbrev pub TellsBaseless : Site → List Face → List AskedMarkers → ℕ → Bool → Type 0
TellsBaseless site faces heard place result =
    (kept : Retained) (operations : List DoneOperation) (timeline : Timeline) (ticks : List TickBlock) (causes :
    ShownCauses) (joined : JoinedPanels) → HasNoCycle site → HaveHeard site causes joined faces heard
    → CausesStand site kept operations timeline ticks causes → JoinedStandsFor site ticks joined
    → AreFacesAfter timeline (length ticks) faces
    → (result ≡ true) ↔ IsBaseless site kept (done_newest_first operations) timeline (moments_of ticks) place

-- the first such output, by markers that were solved over some facts before
abbrev pub ScansBaseless : Site → List Numbered → ShownCauses → JoinedPanels → List Face → List AskedMarkers
    → Option ℕ → Type 0
ScansBaseless site outputs causes joined faces heard found =
    (kept : Retained) (operations : List DoneOperation) (timeline : Timeline) (ticks : List TickBlock) → HasNoCycle site
    → HeardSolved site heard → AreOutputNumbers site.outputs outputs
    → CausesStand site kept operations timeline ticks causes → JoinedStandsFor site ticks joined
    → AreFacesAfter timeline (length ticks) faces
    → FirstPlace outputs (IsBaseless site kept (done_newest_first operations) timeline (moments_of ticks)) found

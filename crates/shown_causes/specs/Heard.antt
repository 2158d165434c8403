-- Which causes a panel may have heard, by the latest of them.
use Rattle.std.specs.Prelude.{◌≡◌, ◌↔◌, ℕ, ◌+◌, ◌-◌, ◌≤◌, ◌<◌, Bool, true, List, ◌∷◌, Some, length, slice_get, IsTrue}
use Rattle.site_types.specs.declared.output.Output.{Output}
use Rattle.site_types.specs.declared.retained.Retained.{Retained}
use Rattle.site_types.specs.declared.site.Site.{Site}
use Rattle.site_types.specs.declared.zone.Zone.{Zone}
use Rattle.site_types.specs.Bits.{has_bit}
use Rattle.site_types.specs.Profile.{network_of}
use Rattle.site_types.specs.Valid.{IsValid}
use Rattle.face_text.specs.declared.timeline.Timeline.{Timeline}
use Rattle.marker_table.specs.declared.facts.Facts.{Facts as Masks}
use Rattle.cause_effect.specs.Cycles.{HasNoCycle}
use Rattle.panel_rules.specs.Caused.{IsCausedAt}
use Rattle.panel_rules.specs.Moments.{TickBlock, moments, tick_of}
use Rattle.panel_rules.specs.Records.{AreOrdered}
use Rattle.point_runs.specs.declared.point_run.PointRun.{PointRun}
use Rattle.blocked_points.specs.declared.done_operation.DoneOperation.{DoneOperation}
use Rattle.blocked_points.specs.Operations.{done_newest_first}
use Rattle.joined_panels.specs.declared.joined_panels.JoinedPanels.{JoinedPanels}
use Rattle.joined_panels.specs.Stands.{StandsFor as JoinedStandsFor}
use Rattle.audit_rules.specs.CanCause.{CanBeHeard, CanBeHeardByHand, CanBeOn, CanBeShown, CanTellFault}
use Rattle.audit_rules.specs.Hearing.{MayBeHeard}
use Rattle.signal_points.specs.Stands.{AreSignalRuns}
use Rattle.asked_markers.specs.declared.asked_markers.AskedMarkers.{AskedMarkers}
use Rattle.asked_markers.specs.FactsTold.{TellAll, TellZones}
use Rattle.asked_markers.specs.Solved.{GoesBy}
use Rattle.caused_zones.specs.Stands.{StandsFor as CausedStandFor}
use Rattle.shown_causes.specs.declared.shown_causes.ShownCauses.{ShownCauses}
use Rattle.shown_causes.specs.Faults.{FaultsStand}

-- what is kept of the ticks, of the operations and of the text
pub record StandsFor (site : Site) (kept : Retained) (operations : List DoneOperation) (timeline : Timeline) (ticks :
    List TickBlock) (causes : ShownCauses) : Type 0 where
  pub now : causes.latest.0 ≡ length ticks
  pub network : causes.network ≡ network_of site.format
  pub caused : CausedStandFor site kept operations ticks causes.caused
  pub faults : FaultsStand timeline (length ticks) causes.faults

-- the masks tell all that a panel may have heard
abbrev pub TellAllHeard : Site → Retained → List DoneOperation → Timeline → List TickBlock → ℕ → Masks → Type 0
TellAllHeard site kept operations timeline ticks panel masks =
    TellAll site (CanBeHeard site timeline kept (done_newest_first operations) (moments ticks) panel)
    (CanBeHeardByHand site timeline kept (done_newest_first operations) (moments ticks) panel)
    (CanTellFault site timeline kept (done_newest_first operations) (moments ticks) panel) masks

-- whether a zone was caused to be in alarm at the last tick
abbrev pub TellsCaused : ShownCauses → ℕ → Bool → Type 0
TellsCaused causes zone result =
    (site : Site) (kept : Retained) (operations : List DoneOperation) (timeline : Timeline) (ticks : List TickBlock)
    → StandsFor site kept operations timeline ticks causes → zone < length site.zones
    → IsTrue result
    ↔ IsCausedAt site kept (done_newest_first operations) (moments ticks) zone (tick_of (moments ticks))

module _ (causes : ShownCauses) (joined : JoinedPanels) where
  -- whatever it stands for, a relation holds
  abbrev pub ForEach : (Site → Retained → List DoneOperation → Timeline → List TickBlock → Type 0) → Type 0
  ForEach Holds = (site : Site) (kept : Retained) (operations : List DoneOperation) (timeline : Timeline) (ticks :
      List TickBlock) → StandsFor site kept operations timeline ticks causes → JoinedStandsFor site ticks joined
      → Holds site kept operations timeline ticks

  -- whether a panel may have heard another one's word of a tick
  abbrev pub TellsMayBeHeard : ℕ → ℕ → ℕ → Bool → Type 0
  TellsMayBeHeard source panel stamp result = ForEach (λ site kept operations timeline ticks.
      stamp ≤ length ticks → IsTrue result ↔ MayBeHeard site (moments ticks) panel source stamp)

  -- whether it may have heard a zone of another one to be in alarm, and to be so by hand
  abbrev pub TellsAlarmHeard : Zone → ℕ → ℕ → Bool → Type 0
  TellsAlarmHeard plan zone panel result = ForEach (λ site kept operations timeline ticks.
      slice_get site.zones zone ≡ Some plan → IsTrue result
      ↔ CanBeHeard site timeline kept (done_newest_first operations) (moments ticks) panel zone)

  abbrev pub TellsCallHeard : Zone → ℕ → ℕ → Bool → Type 0
  TellsCallHeard plan zone panel result = ForEach (λ site kept operations timeline ticks.
      slice_get site.zones zone ≡ Some plan → IsTrue result
      ↔ CanBeHeardByHand site timeline kept (done_newest_first operations) (moments ticks) panel zone)

  -- whether it may have heard another one's fault
  abbrev pub TellsFault : ℕ → ℕ → Bool → Type 0
  TellsFault source panel result = ForEach (λ site kept operations timeline ticks.
      IsTrue result ↔ CanTellFault site timeline kept (done_newest_first operations) (moments ticks) panel source)

  abbrev pub TellsFaults : ℕ → ℕ → Type 0
  TellsFaults panel mask = ForEach (λ site kept operations timeline ticks. (source : ℕ) → 1 ≤ source → source ≤ 8
      → (has_bit mask (source - 1) ≡ true)
      ↔ CanTellFault site timeline kept (done_newest_first operations) (moments ticks) panel source)

  -- the masks of the zones that it may have heard to be in alarm, and to be so by hand
  abbrev pub TellsZonesHeard : Site → ℕ → List ℕ → Type 0
  TellsZonesHeard site panel masks =
      (kept : Retained) (operations : List DoneOperation) (timeline : Timeline) (ticks : List TickBlock)
      → StandsFor site kept operations timeline ticks causes → JoinedStandsFor site ticks joined
      → TellZones site (CanBeHeard site timeline kept (done_newest_first operations) (moments ticks) panel) masks

  abbrev pub TellsCallsHeard : Site → ℕ → List ℕ → Type 0
  TellsCallsHeard site panel masks =
      (kept : Retained) (operations : List DoneOperation) (timeline : Timeline) (ticks : List TickBlock)
      → StandsFor site kept operations timeline ticks causes → JoinedStandsFor site ticks joined
      → TellZones site (CanBeHeardByHand site timeline kept (done_newest_first operations) (moments ticks) panel)
      masks

  abbrev pub TellsHeard : Site → ℕ → Masks → Type 0
  TellsHeard site panel masks =
      (kept : Retained) (operations : List DoneOperation) (timeline : Timeline) (ticks : List TickBlock)
      → StandsFor site kept operations timeline ticks causes → JoinedStandsFor site ticks joined
      → TellAllHeard site kept operations timeline ticks panel masks

  -- whether a zone of the site can be shown at a panel
  abbrev pub TellsShown : Site → ℕ → ℕ → Bool → Type 0
  TellsShown site panel zone result =
      (kept : Retained) (operations : List DoneOperation) (timeline : Timeline) (ticks : List TickBlock)
      → zone < length site.zones → StandsFor site kept operations timeline ticks causes
      → JoinedStandsFor site ticks joined
      → IsTrue result ↔ CanBeShown site timeline kept (done_newest_first operations) (moments ticks) panel zone

-- whether an output can be on, with the markers of its panel over all that the panel may have heard
abbrev pub TellsCanBeOn : AskedMarkers → Output → Bool → Type 0
TellsCanBeOn asked output result =
    (site : Site) (kept : Retained) (operations : List DoneOperation) (timeline : Timeline) (ticks : List TickBlock)
    (masks : Masks) (place : ℕ) → IsValid site → HasNoCycle site → slice_get site.outputs place ≡ Some output
    → GoesBy site masks asked → TellAllHeard site kept operations timeline ticks output.panel masks
    → IsTrue result ↔ CanBeOn site timeline kept (done_newest_first operations) (moments ticks) place

-- the next tick is taken: of the operations those that come into force, the answers of points, and the text's step
abbrev pub TakesCauses : Site → ℕ → List DoneOperation → List PointRun → Timeline → ShownCauses → ShownCauses
    → Type 0
TakesCauses site now operations runs timeline old new =
    (kept : Retained) (ticks : List TickBlock) (tick : TickBlock) → IsValid site
    → AreOrdered site.panels (tick ∷ ticks) → now ≡ length ticks + 1
    → AreSignalRuns site kept operations (tick ∷ ticks) runs
    → StandsFor site kept operations timeline ticks old → StandsFor site kept operations timeline (tick ∷ ticks) new

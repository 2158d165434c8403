-- What the rules promise of the face of a panel, in each run that the system stands for and whatever the orders of
-- turns were. The premises are those of the rules alone: what befell, and which operations were done.
use Rattle.std.specs.Prelude.{◌≡◌, ◌⊎◌, ◌≤◌, ◌+◌, ◌-◌, ℕ, min, true, false, List, ◌∷◌, Some, length, slice_get}
use Rattle.std.specs.List.{list_any}
use Rattle.site_types.specs.declared.loop_plan.LoopPlan.{LoopPlan}
use Rattle.site_types.specs.declared.output.Output.{Output}
use Rattle.site_types.specs.declared.piece_state.PieceState.TheVariants.{Open, Short}
use Rattle.site_types.specs.declared.point.Point.{Point}
use Rattle.site_types.specs.declared.retained.Retained.{Retained}
use Rattle.site_types.specs.declared.site.Site.{Site}
use Rattle.site_types.specs.declared.supply_kind.SupplyKind.{SupplyKind}
use Rattle.site_types.specs.declared.zone.Zone.{Zone}
use Rattle.site_types.specs.Bits.{has_bit, has_point}
use Rattle.site_types.specs.Changes.{AreCounters}
use Rattle.site_types.specs.Done.{Setting, in_force, value_set}
use Rattle.site_types.specs.Limits.{greatest_count}
use Rattle.site_types.specs.Profile.{disablement_of, network_of, reset_of, signal_of, verify_of}
use Rattle.site_types.specs.Things.{loop_of}
use Rattle.face_text.specs.declared.face.Face.{Face}
use Rattle.face_text.specs.Faces.{is_in_fire}
use Rattle.panel_conditions.specs.Missing.{is_off}
use Rattle.panel_links.specs.Stands.{is_link_of}
use Rattle.panel_rules.specs.Batches.{is_in_fire_alarm}
use Rattle.panel_rules.specs.CausedOutputs.{IsCausedAtPanel, IsCausedOutput}
use Rattle.panel_rules.specs.Due.{DetectorSignals, IsDue, LoneSignals, Signals}
use Rattle.panel_rules.specs.DueOutputs.{IsDueOn}
use Rattle.panel_rules.specs.Faces.{counter_in}
use Rattle.panel_rules.specs.Moments.{Moment, Kept, IsRun, IsPanel, HaveAllTurned, tick_of}
use Rattle.panel_rules.specs.Operations.{Answered}
use Rattle.panel_rules.specs.States.{is_up, piece_of, supply_number}
use Rattle.panel_laws.specs.BatchLaws.{IsLastCleared, counted_since}
use Rattle.panel_laws.specs.FaceLaws.{shows_first, shows_output, shows_zone}
use Rattle.panel_laws.specs.OtherDeadlines.{IsAway, IsBadThrough, IsCutOff, NoneBetween}
use Rattle.panel_laws.specs.OutputDeadlines.{IsIndicated}
use Rattle.panel_laws.specs.ProfileLaws.{IsSignalled, WereJoined}
use Rattle.panel_laws.specs.ShownSettings.{WasAccepted, is_setting_at, shows_setting}
use Rattle.panel_laws.specs.TimelineLaws.{clears_counter, counted_entries}
use Rattle.panel_core.specs.declared.system.System.{System}
use Rattle.panel_parts.specs.Applied.{done_so_far}
use Rattle.panel_core.specs.Stands.{StandsFor}

-- in each run that the system stands for
abbrev pub InEachRun : System → (Site → Retained → List Moment → Type 0) → Type 0
InEachRun system Holds = (site : Site) (kept : Retained) (moments : List Moment)
    → StandsFor site kept moments system → IsRun site.panels moments → Holds site kept moments

-- in each run that the system stands for, at the end of a tick
abbrev pub AfterEachTick : System → (Site → Retained → List Moment → Type 0) → Type 0
AfterEachTick system Holds =
    InEachRun system (λ site kept moments. HaveAllTurned site.panels moments → Holds site kept moments)

-- in each run that the system stands for, at the end of a tick, of each zone of its site
abbrev pub OfEachZone : System → (Site → Retained → List Moment → ℕ → Zone → Type 0) → Type 0
OfEachZone system Holds =
    AfterEachTick system (λ site kept moments. (zone : ℕ) (plan : Zone) → slice_get site.zones zone ≡ Some plan
    → Holds site kept moments zone plan)

-- in each run that the system stands for, at the end of a tick, of each output of its site
abbrev pub OfEachOutput : System → (Site → Retained → List Moment → ℕ → Output → Type 0) → Type 0
OfEachOutput system Holds =
    AfterEachTick system (λ site kept moments. (output : ℕ) (plan : Output)
    → slice_get site.outputs output ≡ Some plan → Holds site kept moments output plan)

module _ (system : System) (panel : ℕ) (face : Face) where
  -- ---- zones

  -- a zone that is due at the panel is shown
  abbrev pub ShowsDueZone : Type 0
  ShowsDueZone = OfEachZone system (λ site kept moments zone plan.
      IsDue site kept (done_so_far site kept moments) moments zone panel → shows_zone face plan ≡ true)

  -- a zone that is shown has its recorded cause
  abbrev pub ShowsCausedZone : Type 0
  ShowsCausedZone = OfEachZone system (λ site kept moments zone plan.
      shows_zone face plan ≡ true → IsCausedAtPanel site kept (done_so_far site kept moments) moments panel zone)

  -- a zone of the panel is shown the profile's ticks of a signal after its signal counts
  abbrev pub ShowsSignal : Type 0
  ShowsSignal = OfEachZone system (λ site kept moments zone plan. (settled : ℕ) → plan.panel ≡ panel
      → Signals site kept (done_so_far site kept moments) moments zone (tick_of moments) settled
      → settled + signal_of site.format ≤ tick_of moments → shows_zone face plan ≡ true)

  -- a zone of a panel that was joined for the last of the network's ticks is shown after so many
  abbrev pub ShowsJoinedSignal : Type 0
  ShowsJoinedSignal = OfEachZone system (λ site kept moments zone plan. (settled : ℕ)
      → Signals site kept (done_so_far site kept moments) moments zone (tick_of moments) settled
      → settled + network_of site.format ≤ tick_of moments → WereJoined site moments plan.panel panel
      → shows_zone face plan ≡ true)

  -- a zone of type A in which a single detector signals is shown once the zone's time, the profile's addition and
  -- the signal's ticks have passed since the detector began
  abbrev pub ShowsSingleDetector : Type 0
  ShowsSingleDetector = OfEachZone system (λ site kept moments zone plan. (settled : ℕ) → plan.panel ≡ panel
      → (signals : DetectorSignals site kept (done_so_far site kept moments) moments zone (tick_of moments) settled)
      → signals.first + signals.verify + verify_of site.format + signal_of site.format ≤ tick_of moments
      → shows_zone face plan ≡ true)

  -- a zone of type B with one lasting signal is shown in alarm or in first state, until its time ends
  abbrev pub ShowsLoneZone : Type 0
  ShowsLoneZone = OfEachZone system (λ site kept moments zone plan. plan.panel ≡ panel
      → LoneSignals site kept (done_so_far site kept moments) moments zone (tick_of moments)
      → (shows_zone face plan ≡ true) ⊎ (shows_first face plan ≡ true))

  -- what signals on after a reset is shown again within the profile's ticks of a reset; what a single detector of
  -- type A needs is added to both sides
  abbrev pub ShowsWhatStandsAgain : Type 0
  ShowsWhatStandsAgain = OfEachZone system (λ site kept moments zone plan. (reset addition settled : ℕ)
      → plan.panel ≡ panel
      → Signals site kept (done_so_far site kept moments) moments zone (tick_of moments) settled
      → settled ≤ reset + 1 + addition → reset + reset_of site.format + addition ≤ tick_of moments
      → shows_zone face plan ≡ true)

  pub record PromisedZones : Type 0 where
    pub due_zone_is_shown : ShowsDueZone
    pub shown_zone_is_caused : ShowsCausedZone
    pub signal_is_shown : ShowsSignal
    pub joined_signal_is_shown : ShowsJoinedSignal
    pub single_detector_is_shown : ShowsSingleDetector
    pub lone_zone_is_shown : ShowsLoneZone
    pub stands_again : ShowsWhatStandsAgain

  -- ---- outputs

  -- an output of the panel that is due to be on is shown on
  abbrev pub ShowsDueOutput : Type 0
  ShowsDueOutput = OfEachOutput system (λ site kept moments output plan. plan.panel ≡ panel
      → IsDueOn site kept (done_so_far site kept moments) moments output → shows_output face plan ≡ true)

  -- an output without a delay is shown on the profile's ticks of an output after the panel's own indication
  abbrev pub ShowsIndicatedOutput : Type 0
  ShowsIndicatedOutput = OfEachOutput system (λ site kept moments output plan. plan.panel ≡ panel
      → IsIndicated site kept (done_so_far site kept moments) moments output → shows_output face plan ≡ true)

  -- an output without a delay, neither disabled nor a quiet sounder, is shown on where its marker is made true by zones
  -- alone that have signalled for long enough
  abbrev pub ShowsSignalledOutput : Type 0
  ShowsSignalledOutput = OfEachOutput system (λ site kept moments output plan. plan.panel ≡ panel
      → IsSignalled site kept (done_so_far site kept moments) moments output plan → shows_output face plan ≡ true)

  -- an output that is shown on has its recorded cause
  abbrev pub ShowsCausedOutput : Type 0
  ShowsCausedOutput = OfEachOutput system (λ site kept moments output plan. plan.panel ≡ panel
      → shows_output face plan ≡ true → IsCausedOutput site kept (done_so_far site kept moments) moments output)

  pub record PromisedOutputs : Type 0 where
    pub due_output_is_on : ShowsDueOutput
    pub indicated_output_is_on : ShowsIndicatedOutput
    pub signalled_output_is_on : ShowsSignalledOutput
    pub on_output_is_caused : ShowsCausedOutput

  -- ---- faults

  -- a point of the panel that was gone or not reached for the profile's ticks of a fault is shown as missing, where
  -- neither it nor its zone is disabled
  abbrev pub ShowsMissingPoint : Type 0
  ShowsMissingPoint = AfterEachTick system (λ site kept moments. (point first : ℕ) (plan : Point)
      → slice_get site.points point ≡ Some plan → plan.panel ≡ panel → IsAway site moments point first
      → is_off site kept (done_so_far site kept moments) point (tick_of moments) ≡ false
      → has_point face.faults.missing plan.line plan.address ≡ true)

  -- a supply that was bad for its wait and the profile's ticks of a fault is shown
  abbrev pub ShowsBadSupply : Type 0
  ShowsBadSupply = AfterEachTick system (λ site kept moments. (kind : SupplyKind) (first : ℕ)
      → IsBadThrough site moments panel kind first → has_bit face.faults.supply (supply_number kind) ≡ true)

  -- a panel that was cut off for the profile's ticks of a fault is shown as silent
  abbrev pub ShowsSilentPanel : Type 0
  ShowsSilentPanel = AfterEachTick system (λ site kept moments. (other first : ℕ) → IsPanel site.panels other
      → IsCutOff site moments panel other first → has_bit face.faults.silent (other - 1) ≡ true)

  -- an open piece of cable and a short one are shown in their own tick
  abbrev pub ShowsPiece : Type 0
  ShowsPiece = AfterEachTick system (λ site kept moments. (line piece : ℕ) (plan : LoopPlan)
      → 1 ≤ line → line ≤ 4 → loop_of site panel line ≡ Some plan → piece ≤ plan.last
      → (piece_of panel line piece moments ≡ Open → has_bit face.faults.broken (line - 1) ≡ true)
      × (piece_of panel line piece moments ≡ Short → has_bit face.faults.shorted (line - 1) ≡ true))

  -- a link of the panel that is down is shown in its own tick
  abbrev pub ShowsLink : Type 0
  ShowsLink = AfterEachTick system (λ site kept moments. (link : ℕ) → 1 ≤ link → link ≤ 8
      → is_link_of site.panels panel link ≡ true → is_up link moments ≡ false
      → has_bit face.faults.links (link - 1) ≡ true)

  pub record PromisedFaults : Type 0 where
    pub away_point_is_missing : ShowsMissingPoint
    pub bad_supply_is_shown : ShowsBadSupply
    pub cut_off_panel_is_silent : ShowsSilentPanel
    pub piece_is_shown : ShowsPiece
    pub link_is_shown : ShowsLink

  -- ---- settings

  -- exactly those of the panel's settings that are in force are shown
  abbrev pub ShowsSettingsInForce : Type 0
  ShowsSettingsInForce = InEachRun system (λ site kept moments. (setting : Setting)
      → is_setting_at site panel setting ≡ true
      → shows_setting site face setting ≡ in_force site kept setting (tick_of moments) (done_so_far site kept moments))

  -- so many ticks after an accepted operation at the panel the setting is shown as the operation set it, until
  -- another operation on it is done
  abbrev pub ShowsAcceptedAfter : (Site → ℕ) → Type 0
  ShowsAcceptedAfter ticks = InEachRun system (λ site kept moments. (a : Answered) (setting : Setting)
      → WasAccepted site kept moments a setting → a.request.panel ≡ panel
      → a.request.tick + ticks site ≤ tick_of moments
      → NoneBetween setting a.tick (tick_of moments) (done_so_far site kept moments)
      → shows_setting site face setting ≡ value_set a.request.operation)

  pub record PromisedSettings : Type 0 where
    pub settings_are_shown : ShowsSettingsInForce
    pub accepted_is_shown : ShowsAcceptedAfter (λ site. 2)
    pub disablement_is_shown : ShowsAcceptedAfter (λ site. disablement_of site.format)

  -- ---- the fire alarm condition, and its counter

  -- the fire alarm condition that is shown is the one whose entries are counted
  abbrev pub ShowsCountedFire : Type 0
  ShowsCountedFire = InEachRun system (λ site kept moments.
      is_in_fire face ≡ is_in_fire_alarm site kept (done_so_far site kept moments) panel moments)

  -- the counter of a panel that nobody cleared is the one at opening and the entries that were kept, up to 999,999
  abbrev pub CounterAddsUp : Type 0
  CounterAddsUp = InEachRun system (λ site kept moments. length kept.counters ≡ 8 → AreCounters kept.counters
      → list_any (clears_counter panel) (done_so_far site kept moments) ≡ false
      → face.counter ≡ min
      (counter_in panel kept + counted_entries site kept (done_so_far site kept moments) panel moments) greatest_count)

  -- the counter of a panel that somebody cleared is the entries that were kept since, up to 999,999
  abbrev pub ClearedCounterAddsUp : Type 0
  ClearedCounterAddsUp = InEachRun system (λ site kept moments. (before : List Moment) → length kept.counters ≡ 8
      → AreCounters kept.counters → IsLastCleared site kept panel before moments
      → face.counter ≡ min (counted_since site kept panel (Kept false ∷ before) moments) greatest_count)

  pub record PromisedCounter : Type 0 where
    pub fire_is_counted : ShowsCountedFire
    pub counter_adds_up : CounterAddsUp
    pub cleared_counter_adds_up : ClearedCounterAddsUp

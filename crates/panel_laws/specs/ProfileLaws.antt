-- What the numbers of ticks of the profile promise, in each run of a valid site and whatever the order of
-- turns. The rows on faults, on a reset and on outputs after the indication stand among the other deadlines.
use Rattle.std.specs.Prelude.{◌≡◌, ◌≤◌, ◌+◌, ◌-◌, ◌&&◌, ℕ, true, false, List, Some, slice_get}
use Rattle.site_types.specs.declared.output.Output.{Output}
use Rattle.site_types.specs.declared.retained.Retained.{Retained}
use Rattle.site_types.specs.declared.site.Site.{Site}
use Rattle.site_types.specs.declared.zone.Zone.{Zone}
use Rattle.site_types.specs.Done.{Done, Setting, OutputOff, in_force, value_set}
use Rattle.site_types.specs.Profile.{disablement_of, network_of, settled_of, signal_of, spread_of, verify_of}
use Rattle.site_types.specs.Valid.{IsValid}
use Rattle.panel_rules.specs.Moments.{Moment, tick_of, IsPanel, IsRun}
use Rattle.panel_rules.specs.Ring.{AreJoined}
use Rattle.panel_rules.specs.Due.{DetectorSignals, Signals, SignalsOut}
use Rattle.panel_rules.specs.Markers.{Facts}
use Rattle.panel_rules.specs.Outputs.{is_quiet, is_sounder, is_true_over}
use Rattle.panel_rules.specs.Run.{facts_of}
use Rattle.panel_rules.specs.Zones.{panel_of_zone}
use Rattle.panel_rules.specs.Operations.{Answered, operations}
use Rattle.panel_laws.specs.OperationLaws.{AreOfSite}
use Rattle.panel_rules.specs.Faces.{face_with}
use Rattle.panel_laws.specs.FaceLaws.{HasEnded, shows_output, shows_zone}
use Rattle.panel_laws.specs.OtherDeadlines.{NoneBetween}
use Rattle.panel_laws.specs.ShownSettings.{WasAccepted, shows_setting}

-- the network's ticks are those in which a zone settles at its own panel, and those in which its word goes
-- round
abbrev pub NetworkIsTheSum : Type 0
NetworkIsTheSum = (format : ℕ) → network_of format ≡ settled_of format + spread_of format

-- after the signal's ticks a zone is shown by its own panel
abbrev pub SignalIsShown : Type 0
SignalIsShown =
    (site : Site) (kept : Retained) (done : List Done) (stored : Retained) (moments : List Moment)
    (zone : ℕ) (plan : Zone) (settled : ℕ) → HasEnded site moments → slice_get site.zones zone ≡ Some plan
    → Signals site kept done moments zone (tick_of moments) settled
    → settled + signal_of site.format ≤ tick_of moments
    → shows_zone (face_with site kept done stored plan.panel moments) plan ≡ true

-- two panels were joined for the last of the network's ticks
abbrev pub WereJoined : Site → List Moment → ℕ → ℕ → Type 0
WereJoined site moments one other =
    AreJoined site.panels moments one other (tick_of moments - network_of site.format) (tick_of moments)

-- after the network's ticks a zone is shown by each panel that was joined with its own for the last of so
-- many
abbrev pub JoinedPanelsShow : Type 0
JoinedPanelsShow =
    (site : Site) (kept : Retained) (done : List Done) (stored : Retained) (moments : List Moment)
    (zone : ℕ) (plan : Zone) (panel settled : ℕ) → HasEnded site moments
    → slice_get site.zones zone ≡ Some plan
    → IsPanel site.panels panel → Signals site kept done moments zone (tick_of moments) settled
    → settled + network_of site.format ≤ tick_of moments → WereJoined site moments plan.panel panel
    → shows_zone (face_with site kept done stored panel moments) plan ≡ true

-- a zone has signalled for the outputs of a panel: for the signal's ticks where it is the zone's own, for the
-- network's where it was joined with that for the last of so many
pub data HasSignalledFor (site : Site) (kept : Retained) (done : List Done) (moments : List Moment)
    (zone panel : ℕ) :
    Type 0 where
  at_home : (settled : ℕ) → SignalsOut site kept done moments zone (tick_of moments) settled
      → settled + signal_of site.format ≤ tick_of moments → panel ≡ panel_of_zone site zone
      → HasSignalledFor site kept done moments zone panel
  over_the_network : (settled : ℕ) → SignalsOut site kept done moments zone (tick_of moments) settled
      → settled + network_of site.format ≤ tick_of moments
      → WereJoined site moments (panel_of_zone site zone) panel
      → HasSignalledFor site kept done moments zone panel

-- an output without a delay, neither disabled nor a quiet sounder, whose marker is true over zones alone that have
-- signalled for its panel for long enough
pub record IsSignalled (site : Site) (kept : Retained) (done : List Done) (moments : List Moment) (output : ℕ)
    (plan : Output) : Type 0 where
  pub is : slice_get site.outputs output ≡ Some plan
  pub begun : 1 ≤ tick_of moments
  pub instant : plan.delay ≡ 0
  pub enabled : in_force site kept (OutputOff output) (tick_of moments) done ≡ false
  pub heard : (is_sounder site output && is_quiet site (facts_of site kept done) kept done plan.panel moments)
      ≡ false
  pub facts : Facts
  pub zones : (zone : ℕ) → facts.released zone ≡ true → HasSignalledFor site kept done moments zone plan.panel
  pub hands : (zone : ℕ) → facts.by_hand zone ≡ false
  pub faults : (source : ℕ) → facts.faulty source ≡ false
  pub asks : is_true_over site output facts ≡ true

-- an output without a delay, neither disabled nor a quiet sounder, is shown on where zones that signal make its marker
-- true by themselves: those of its own panel after the signal's ticks, those of a joined one after the network's
abbrev pub SignalledOutputIsOn : Type 0
SignalledOutputIsOn =
    (site : Site) (kept : Retained) (done : List Done) (stored : Retained) (moments : List Moment)
    (output : ℕ) (plan : Output) → HasEnded site moments → IsSignalled site kept done moments output plan
    → shows_output (face_with site kept done stored plan.panel moments) plan ≡ true

-- a zone of type A in which a single detector signals is shown by its own panel once the zone's time, the
-- profile's addition and the signal's ticks have passed since the detector began
abbrev pub SingleDetectorIsShown : Type 0
SingleDetectorIsShown =
    (site : Site) (kept : Retained) (done : List Done) (stored : Retained) (moments : List Moment)
    (zone : ℕ) (plan : Zone) (settled : ℕ) → HasEnded site moments → slice_get site.zones zone ≡ Some plan
    → (signals : DetectorSignals site kept done moments zone (tick_of moments) settled)
    → signals.first + signals.verify + verify_of site.format + signal_of site.format ≤ tick_of moments
    → shows_zone (face_with site kept done stored plan.panel moments) plan ≡ true

-- after a disablement's ticks its setting is as the operation set it, and is shown so by its panel, until
-- another operation on the setting is done
abbrev pub DisablementIsShown : Type 0
DisablementIsShown =
    (site : Site) (kept : Retained) (stored : Retained) (moments : List Moment) (a : Answered) (setting :
    Setting)
    → IsValid site → IsRun site.panels moments → AreOfSite site moments
    → WasAccepted site kept moments a setting
    → a.request.tick + disablement_of site.format ≤ tick_of moments
    → NoneBetween setting a.tick (tick_of moments) (operations site kept moments).done
    → (in_force site kept setting (tick_of moments) (operations site kept moments).done
    ≡ value_set a.request.operation)
    × (shows_setting site (face_with site kept (operations site kept moments).done stored a.request.panel
    moments) setting
    ≡ value_set a.request.operation)

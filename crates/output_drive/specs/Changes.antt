-- What ticks, turns and confirmations make of the outputs of a panel, whatever they stood for.
use Rattle.std.specs.Prelude.{◌≡◌, ◌<◌, ◌-◌, ℕ, Bool, List, [], ◌∷◌, Some, slice_get}
use Rattle.std.specs.List.{AllByRecursion}
use Rattle.tick_units.specs.declared.task.Task.TheVariants.{Drive as DriveTask}
use Rattle.site_types.specs.declared.event.Event.TheVariants.{Confirmed}
use Rattle.site_types.specs.declared.operation.Operation.{Operation}
use Rattle.site_types.specs.declared.output.Output.{Output}
use Rattle.site_types.specs.declared.requests.Requests.{Requests}
use Rattle.site_types.specs.declared.retained.Retained.{Retained}
use Rattle.site_types.specs.declared.site.Site.{Site}
use Rattle.site_types.specs.Bits.{has_bit}
use Rattle.site_types.specs.Done.{Done, OutputOff, in_force}
use Rattle.site_types.specs.Valid.{IsValid}
use Rattle.sounder_control.specs.Quiet.{Call as SilenceCall}
use Rattle.sounder_control.specs.Stands.{StandsFor as SilenceStands}
use Rattle.output_delays.specs.Overrides.{AllUpTo}
use Rattle.output_delays.specs.Runs.{Call as DelayCall, overrides_of}
use Rattle.output_delays.specs.Stands.{StandsFor as DelaysStand}
use Rattle.panel_rules.specs.Moments.{Moment, Began, Happened, Turned, tick_of}
use Rattle.panel_rules.specs.Markers.{Facts}
use Rattle.panel_rules.specs.Outputs.{released_at_effect}
use Rattle.operation_desk.specs.declared.done_operation.DoneOperation.{DoneOperation}
use Rattle.operation_desk.specs.Requests.{with_done}
use Rattle.output_calls.specs.DelayCalls.{and_delaying, requests_at}
use Rattle.output_calls.specs.DoneCalls.{IsLatestFirst}
use Rattle.output_calls.specs.SilenceCalls.{and_silencing, zone_masks}
use Rattle.output_drive.specs.declared.drive.Drive.{Drive}
use Rattle.output_drive.specs.Stands.{DrivesFor}

-- nothing has befallen yet, whatever will be done
abbrev pub StandsAtFirst : Site → Retained → ℕ → Drive → Type 0
StandsAtFirst site kept panel drive =
    (facts : ℕ → List Moment → Facts) (done : List Done) → DrivesFor site facts kept done panel [] drive

-- each was done in an earlier tick
abbrev pub AreEarlier : ℕ → List Done → Type 0
AreEarlier tick done = AllByRecursion (λ (d : Done). d.tick < tick) done

-- a tick began, and what was done in the one that ended, after all that was done in earlier ones, came in
-- force: it was already counted among what was done, but befell nothing yet
abbrev pub BeginsTickAfter : Drive → ℕ → ℕ → List DoneOperation → Drive → Type 0
BeginsTickAfter old panel tick ds drive =
    (site : Site) (facts : ℕ → List Moment → Facts) (kept : Retained) (older : List Done) (before : List Moment)
    → DrivesFor site facts kept (with_done tick ds older) panel before old → AreEarlier tick older
    → tick ≡ tick_of before → DrivesFor site facts kept (with_done tick ds older) panel (Began ∷ before) drive

-- an operation that was done at the panel in a tick befell its silence and its delays, and nothing else
pub record TakesOperation (old : Drive) (operation : Operation) (tick : ℕ) (drive : Drive) : Type 0 where
  pub silence : (calls : List SilenceCall) → SilenceStands calls old.silence
      → SilenceStands (and_silencing operation calls) drive.silence
  pub delays : (site : Site) (panel : ℕ) (active : Bool) (calls : List DelayCall)
      → DelaysStand site panel active calls old.delays → AllUpTo tick (overrides_of calls)
      → DelaysStand site panel active (and_delaying tick operation calls) drive.delays
  pub routing : drive.routing ≡ old.routing
  pub on : drive.on ≡ old.on
  pub sounders : drive.sounders ≡ old.sounders

-- a turn of Drive made now is told the tick, what the latest Effect turn asks for and the zones released for
-- it, and of each output of the panel whether it is disabled
pub record IsToldNow (site : Site) (facts : ℕ → List Moment → Facts) (kept : Retained) (done : List Done)
    (panel : ℕ) (before : List Moment) (tick : ℕ) (requests : Requests) (released : List ℕ) (off : ℕ) :
    Type 0 where
  pub at : tick ≡ tick_of before
  pub asked : requests ≡ requests_at site facts panel before
  pub zones : released ≡ zone_masks site (released_at_effect site facts panel before)
  pub disabled : (output : ℕ) (plan : Output) → slice_get site.outputs output ≡ Some plan → plan.panel ≡ panel
      → has_bit off (plan.number - 1) ≡ in_force site kept (OutputOff output) (tick_of before) done

-- the panel's Drive had its turn
abbrev pub MakesDriveTurn : Drive → ℕ → Requests → List ℕ → ℕ → Drive → Type 0
MakesDriveTurn old tick requests released off drive =
    (site : Site) (facts : ℕ → List Moment → Facts) (kept : Retained) (done : List Done) (panel : ℕ) (before :
    List Moment) → DrivesFor site facts kept done panel before old → IsValid site → IsLatestFirst done
    → IsToldNow site facts kept done panel before tick requests released off
    → DrivesFor site facts kept done panel (Turned panel DriveTask ∷ before) drive

-- the output of the panel with this number was confirmed
abbrev pub HearsConfirmation : Drive → ℕ → Drive → Type 0
HearsConfirmation old number drive =
    (site : Site) (facts : ℕ → List Moment → Facts) (kept : Retained) (done : List Done) (panel : ℕ) (before :
    List Moment) (output : ℕ) (plan : Output) → DrivesFor site facts kept done panel before old
    → slice_get site.outputs output ≡ Some plan → plan.panel ≡ panel → plan.number ≡ number
    → DrivesFor site facts kept done panel (Happened (Confirmed output) ∷ before) drive

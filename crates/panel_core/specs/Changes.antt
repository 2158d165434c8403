-- What events and turns make of the system, whatever it stood for.
use Rattle.std.specs.Prelude.{◌≡◌, ◌≢◌, ◌≤◌, ℕ, false, List, ◌∷◌, Some, drop, length, slice_get, take}
use Rattle.std.specs.List.{AllByRecursion}
use Rattle.tick_units.specs.declared.seat.Seat.{Seat}
use Rattle.tick_units.specs.declared.task.Task.{Task}
use Rattle.tick_units.specs.declared.task.Task.TheVariants.{Keep}
use Rattle.site_types.specs.declared.event.Event.{Event}
use Rattle.site_types.specs.declared.retained.Retained.{Retained}
use Rattle.site_types.specs.declared.site.Site.{Site}
use Rattle.site_types.specs.Done.{Done}
use Rattle.face_text.specs.declared.answers.Answers.{Answers}
use Rattle.operation_desk.specs.Stands.{DesksFor}
use Rattle.panel_rules.specs.Moments.{Moment, Began, Happened, Turned, IsRun, and_turns, tick_of}
use Rattle.panel_core.specs.declared.system.System.{System}
use Rattle.panel_rules.specs.Timeline.{answers_now, failed_now, told}
use Rattle.panel_parts.specs.Applied.{MayBeApplied, done_so_far}
use Rattle.panel_core.specs.Stands.{HasApplied, HasBegunPanels, StandsFor}

-- a tick began: the one after that which began last
abbrev pub BeginsTick : System → ℕ → System → Type 0
BeginsTick old tick system =
    (site : Site) (kept : Retained) (before : List Moment)
    → StandsFor site kept before old → tick ≡ tick_of (Began ∷ before) → IsRun site.panels (Began ∷ before)
    → StandsFor site kept (Began ∷ before) system

-- what is asked for, the tick and what is kept are as they were
pub record HasSameDesk (old system : System) : Type 0 where
  pub desk : system.desk ≡ old.desk
  pub tick : system.tick ≡ old.tick
  pub counts : system.counts ≡ old.counts
  pub plan : system.plan ≡ old.plan
  pub ring : system.ring ≡ old.ring

-- an operation that was done in the tick that ends comes in force at all panels
abbrev pub AppliesToAll : System → Done → System → Type 0
AppliesToAll old d system =
    (site : Site) (kept : Retained) (before : List Moment) (done : List Done)
    → HasApplied site kept before done old → MayBeApplied site before done d
    → HasApplied site kept before (d ∷ done) system

-- all that were done so far come in force
abbrev pub AppliesAllDone : System → System → Type 0
AppliesAllDone old system =
    (site : Site) (kept : Retained) (before : List Moment)
    → StandsFor site kept before old → IsRun site.panels (Began ∷ before)
    → HasApplied site kept before (done_so_far site kept before) system

-- the outputs of all panels take what was done in the tick that ends
abbrev pub BeginsOutputs : System → System → Type 0
BeginsOutputs old system =
    (site : Site) (kept : Retained) (before : List Moment)
    → HasApplied site kept before (done_so_far site kept before) old → DesksFor site kept before old.desk
    → IsRun site.panels (Began ∷ before) → HasBegunPanels site kept before system

-- a task of a panel had its turn
abbrev pub MakesTaskTurn : System → ℕ → Task → System → Type 0
MakesTaskTurn old panel task system =
    (site : Site) (kept : Retained) (before : List Moment)
    → StandsFor site kept before old → IsRun site.panels (Turned panel task ∷ before)
    → StandsFor site kept (Turned panel task ∷ before) system

-- an event happened
abbrev pub TakesEvent : System → Event → System → Type 0
TakesEvent old event system =
    (site : Site) (kept : Retained) (before : List Moment)
    → StandsFor site kept before old → StandsFor site kept (Happened event ∷ before) system

-- each of these seats of panels had its turn, in this order
abbrev pub MakesTurns : System → List Seat → System → Type 0
MakesTurns old seats system =
    (site : Site) (kept : Retained) (before : List Moment)
    → StandsFor site kept before old → IsRun site.panels (and_turns false seats before)
    → StandsFor site kept (and_turns false seats before) system

-- the seats of an order from one place up to another
abbrev pub seats_between : ℕ → ℕ → List Seat → List Seat
seats_between from to order = drop from (take to order)

-- none of the seats is Keep's
abbrev pub AreOfPanels : List Seat → Type 0
AreOfPanels seats = AllByRecursion (λ (seat : Seat). seat.task ≢ Keep) seats

-- the seats from one place up to another had their turns, and at that place stands Keep's, or none
pub record MakesTurnsFrom (old : System) (order : List Seat) (from to : ℕ) (system : System) : Type 0 where
  pub since : from ≤ length order → from ≤ to
  pub within : to ≤ length order
  pub panels : AreOfPanels (seats_between from to order)
  pub keep : (seat : Seat) → slice_get order to ≡ Some seat → seat.task ≡ Keep
  pub turns : MakesTurns old (seats_between from to order) system

-- what it answers is what the rules answer in the tick that began last
abbrev pub AnswersAsRuled : System → Answers → Type 0
AnswersAsRuled system answers =
    (site : Site) (kept : Retained) (before : List Moment) → StandsFor site kept before system
    → answers ≡ told (answers_now site kept before) (failed_now site kept before)

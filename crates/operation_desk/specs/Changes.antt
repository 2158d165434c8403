-- What the calls make of a desk, whatever it stood for.
use Rattle.std.specs.Prelude.{◌≡◌, ◌+◌, ◌-◌, ◌^◌, ◌<◌, ◌≤◌, ◌++◌, ℕ, nat_lt, Bool, List, [], ◌∷◌, length, take}
use Rattle.std.specs.Prelude.{◌==◌, filter, slice_index, slice_set, if◌then◌else◌}
use Rattle.site_types.specs.Changes.{IsPanelNumber}
use Rattle.site_types.specs.Limits.{most_operations}
use Rattle.tick_units.specs.declared.task.Task.TheVariants.{Desk as DeskTask}
use Rattle.site_types.specs.declared.event.Event.{Event}
use Rattle.site_types.specs.declared.operation.Operation.{Operation}
use Rattle.site_types.specs.declared.retained.Retained.{Retained}
use Rattle.site_types.specs.declared.site.Site.{Site}
use Rattle.panel_laws.specs.OperationLaws.{AreOfSite}
use Rattle.panel_rules.specs.Moments.{Moment, Began, Happened, Turned, Kept, tick_of}
use Rattle.panel_rules.specs.Operations.{Operations, Request as RequestOf, after_desk, after_request, operations}
use Rattle.panel_rules.specs.Operations.{answer_all, do_all, requests}
use Rattle.panel_rules.specs.Timeline.{busy_count}
use Rattle.operation_desk.specs.declared.desk.Desk.{Desk}
use Rattle.operation_desk.specs.declared.request.Request.{Request}
use Rattle.operation_desk.specs.Requests.{request_from, requests_from}
use Rattle.operation_desk.specs.Stands.{DesksFor, MayTakeKeepTurn, MayRule, MayTakeTurn, TellsOutcomes}
use Rattle.operation_desk.specs.Stands.{given_in}

-- a tick began: the one after that which began last
abbrev pub BeginsAnew : Desk → ℕ → Desk → Type 0
BeginsAnew old tick new =
    (site : Site) (kept : Retained) (before : List Moment) → DesksFor site kept before old
    → tick ≡ tick_of (Began ∷ before) → DesksFor site kept (Began ∷ before) new

-- an event happened
abbrev pub HearsEvent : Site → Event → Desk → Desk → Type 0
HearsEvent site event old new =
    (kept : Retained) (before : List Moment) → DesksFor site kept before old → AreOfSite site (Happened event ∷ before)
    → DesksFor site kept (Happened event ∷ before) new

-- a panel's Desk had its turn
abbrev pub TakesTurn : Site → Retained → ℕ → Desk → Desk → Type 0
TakesTurn site settings panel old new =
    (kept : Retained) (before : List Moment) → DesksFor site kept before old
    → MayTakeTurn site kept settings panel before → DesksFor site kept (Turned panel DeskTask ∷ before) new

-- Keep had its turn
abbrev pub TakesKeepTurn : Bool → Desk → Desk → Type 0
TakesKeepTurn failed old new =
    (site : Site) (kept : Retained) (before : List Moment) → DesksFor site kept before old
    → MayTakeKeepTurn site failed before → DesksFor site kept (Kept failed ∷ before) new

-- what isn't open is as it was
pub record HasSameRest (old new : Desk) : Type 0 where
  pub tick : new.tick ≡ old.tick
  pub number : new.number ≡ old.number
  pub counts : new.counts ≡ old.counts
  pub asked : new.asked ≡ old.asked
  pub busy : new.answers.busy ≡ old.answers.busy
  pub failed : new.answers.failed ≡ old.answers.failed

-- an operation was taken
abbrev pub TakesRequest : Site → Retained → Request → Desk → Desk → Type 0
TakesRequest site settings request old new =
    (kept : Retained) (asked : List RequestOf) (tick : ℕ) (so_far : Operations)
    → TellsOutcomes site kept asked tick so_far old → MayRule site kept settings asked tick so_far request
    → TellsOutcomes site kept asked tick (after_request site kept so_far (request_from request)) new

-- the operation as it is kept
abbrev pub asked_now : ℕ → ℕ → Operation → Desk → Request
asked_now panel level operation desk =
    record {
      number = desk.number + 1;
      tick = desk.tick;
      panel = panel;
      earlier = slice_index desk.counts (panel - 1);
      level = level;
      operation = operation;
    }

-- an operation can be asked for: there is room for it, where it is one of the first of its panel
pub record CanAsk (panel level : ℕ) (operation : Operation) (desk : Desk) : Type 0 where
  pub own : IsPanelNumber panel
  pub sized : length desk.counts ≡ 8
  pub number : desk.number < 2 ^ 64 - 1
  pub count : slice_index desk.counts (panel - 1) ≤ desk.number
  pub room : slice_index desk.counts (panel - 1) < most_operations → length desk.asked.items < 32

-- an operation was asked for; four at most are kept of a panel
pub record Asks (panel level : ℕ) (operation : Operation) (old new : Desk) : Type 0 where
  pub tick : new.tick ≡ old.tick
  pub number : new.number ≡ old.number + 1
  pub counts : new.counts ≡ slice_set old.counts (panel - 1) (slice_index old.counts (panel - 1) + 1)
  pub asked : new.asked.items
      ≡ (if nat_lt (slice_index old.counts (panel - 1)) most_operations then old.asked.items
      ++ asked_now panel level operation old ∷ [] else old.asked.items)
  pub waiting : new.waiting ≡ old.waiting
  pub done : new.done ≡ old.done
  pub answers : new.answers ≡ old.answers

-- the first operations of a panel
abbrev pub firsts_of : ℕ → List Request → List RequestOf
firsts_of panel asked = filter (λ (r : RequestOf). r.panel == panel) (requests_from asked)

-- the first operations of a panel were taken
abbrev pub TakesOwn : Site → Retained → ℕ → Desk → Desk → Type 0
TakesOwn site settings panel old new =
    (kept : Retained) (before : List Moment) → DesksFor site kept before old
    → MayTakeTurn site kept settings panel before → TellsOutcomes site kept (requests site before) (tick_of before)
    (after_desk site kept (firsts_of panel old.asked.items) (operations site kept before)) new

-- what became of operations, once so many of those that wait were answered at a turn of Keep
abbrev pub answered_so_far : ℕ → Bool → ℕ → Operations → Operations
answered_so_far tick failed count start =
    record start {
      answers = answer_all tick failed (take count start.waiting) start.answers;
      done = if failed then start.done else do_all tick (take count start.waiting) start.done;
    }

-- so many of the operations that wait were answered, none of them that its panel was busy
pub record HasAnswered (site : Site) (kept : Retained) (failed : Bool) (count : ℕ) (before : List Moment) (desk :
    Desk) : Type 0 where
  pub told : TellsOutcomes site kept (requests site before) (tick_of before)
      (answered_so_far (tick_of before) failed count (operations site kept before)) desk
  pub busy : (panel : ℕ)
      → busy_count panel (given_in site kept (tick_of before)
      (answered_so_far (tick_of before) failed count (operations site kept before)).answers (requests site before))
      ≡ busy_count panel (given_in site kept (tick_of before) (operations site kept before).answers
      (requests site before))

-- all operations that wait were answered, none of them that its panel was busy
abbrev pub AnswersWaiting : Bool → Desk → Desk → Type 0
AnswersWaiting failed old new =
    (site : Site) (kept : Retained) (before : List Moment) → DesksFor site kept before old
    → MayTakeKeepTurn site failed before
    → HasAnswered site kept failed (length (operations site kept before).waiting) before new

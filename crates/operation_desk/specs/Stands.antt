-- What the desk stands for, after some moments.
use Rattle.std.specs.Prelude.{◌≡◌, ◌<◌, ◌≤◌, ◌+◌, ◌-◌, ◌^◌, ℕ, Bool, false, List, ◌∷◌, Some, None, filter, length}
use Rattle.std.specs.Prelude.{slice_get, slice_index}
use Rattle.std.specs.List.{filter_map}
use Rattle.tick_units.specs.declared.task.Task.TheVariants.{Desk as DeskTask}
use Rattle.face_text.specs.declared.op_answer.OpAnswer.{OpAnswer}
use Rattle.site_types.specs.declared.event.Event.{Event}
use Rattle.site_types.specs.declared.retained.Retained.{Retained}
use Rattle.site_types.specs.declared.site.Site.{Site}
use Rattle.site_types.specs.Changes.{IsPanelNumber}
use Rattle.site_types.specs.Limits.{most_operations}
use Rattle.site_types.specs.Valid.{IsValid}
use Rattle.panel_rules.specs.Moments.{Moment, Happened, Turned, Kept, IsPanel, IsRun, has_turned, tick_of}
use Rattle.panel_rules.specs.Operations.{Answered, Operations, Request as RequestOf, operations, requests}
use Rattle.panel_rules.specs.Operations.{after_request, requests_in}
use Rattle.panel_rules.specs.Timeline.{answer_in, busy_count, failed_now, told_answer}
use Rattle.panel_laws.specs.OperationLaws.{AreOfSite}
use Rattle.operation_desk.specs.declared.desk.Desk.{Desk}
use Rattle.operation_desk.specs.declared.request.Request.{Request}
use Rattle.operation_desk.specs.Replies.{AreInForce, TellsOpen}
use Rattle.operation_desk.specs.Requests.{is_early, request_from, requests_from}

-- the operations asked for are numbered by their places, the first by the number that follows a past one
abbrev pub AreNumberedByPlace : ℕ → List RequestOf → Type 0
AreNumberedByPlace past asked = (k : ℕ) (r : RequestOf) → slice_get asked k ≡ Some r → r.number ≡ past + k + 1

module _ (site : Site) (kept : Retained) where
  -- the answers that are given in a tick to those that were asked for, by number
  abbrev pub given_in : ℕ → List Answered → List RequestOf → List Answered
  given_in tick answers asked = filter_map (answer_in site kept tick answers) asked

  -- the answers that are given in a tick to the operations that were asked for, as they are told by number
  abbrev pub told_in : ℕ → List Answered → List RequestOf → List OpAnswer
  told_in tick answers asked = filter_map told_answer (given_in tick answers asked)

  -- what became of those that were asked for: what waits, was done and is told by number
  pub record TellsOutcomes (asked : List RequestOf) (tick : ℕ) (so_far : Operations) (desk : Desk) :
      Type 0 where
    pub now : desk.tick.0 ≡ tick
    pub unsettled : TellsOpen tick so_far desk.waiting.items desk.done.items
    pub ops : desk.answers.ops ≡ told_in tick so_far.answers asked
    -- what was done was answered
    pub few : length desk.done.items ≤ length desk.answers.ops

  pub record DesksFor (before : List Moment) (desk : Desk) : Type 0 where
    pub number : desk.number ≡ length (requests site before)
    pub counts : (panel : ℕ) → IsPanelNumber panel
        → slice_index desk.counts (panel - 1) ≡ length (requests_in panel (tick_of before) (requests site before))
    pub asked : requests_from desk.asked.items ≡ filter (is_early (tick_of before)) (requests site before)
    pub outcomes : TellsOutcomes (requests site before) (tick_of before) (operations site kept before) desk
    pub busy : (panel : ℕ) → IsPanelNumber panel
        → slice_index desk.answers.busy (panel - 1)
        ≡ busy_count panel (given_in (tick_of before) (operations site kept before).answers (requests site before))
    -- none of a panel whose Desk has yet to have its turn
    pub idle : (panel : ℕ) → IsPanelNumber panel → has_turned panel DeskTask before ≡ false
        → slice_index desk.answers.busy (panel - 1) ≡ 0
    pub failed : desk.answers.failed ≡ failed_now site kept before
    pub sized : (length desk.counts ≡ 8) × (length desk.answers.busy ≡ 8)

-- an operation of a tick is taken next, of those that were asked for: it has no answer yet, and there is room for one
pub record MayRule (site : Site) (kept settings : Retained) (asked : List RequestOf) (tick : ℕ) (so_far :
    Operations) (request : Request) : Type 0 where
  pub numbered : AreNumberedByPlace 0 asked
  pub place : ℕ
  pub is : slice_get asked place ≡ Some (request_from request)
  pub now : request.tick.0 ≡ tick
  pub early : request.earlier < most_operations
  pub panel : IsPanelNumber request.panel
  pub in_force : AreInForce site kept tick so_far.done settings
  pub unanswered : answer_in site kept tick so_far.answers (request_from request) ≡ None
  pub few_told : length (told_in site kept tick (after_request site kept so_far (request_from request)).answers asked)
      ≤ 64
  pub few_wait : length (after_request site kept so_far (request_from request)).waiting ≤ 64

pub record CanRule (site : Site) (settings : Retained) (request : Request) (desk : Desk) : Type 0 where
  pub kept : Retained
  pub asked : List RequestOf
  pub tick : ℕ
  pub so_far : Operations
  pub stands : TellsOutcomes site kept asked tick so_far desk
  pub may : MayRule site kept settings asked tick so_far request

-- the desk stands for some history of a valid site, after which an event may happen; over a run fewer than 2 ^ 64
-- operations are asked for
pub record CanTakeEvent (site : Site) (event : Event) (desk : Desk) : Type 0 where
  pub kept : Retained
  pub before : List Moment
  pub stands : DesksFor site kept before desk
  pub valid : IsValid site
  pub of : AreOfSite site (Happened event ∷ before)
  pub few : length (requests site before) < 2 ^ 64 - 1

-- a history after which a panel's Desk may have its turn, with the settings that are in force
pub record MayTakeTurn (site : Site) (kept settings : Retained) (panel : ℕ) (before : List Moment) : Type 0 where
  pub valid : IsValid site
  pub member : IsPanel site.panels panel
  pub run : IsRun site.panels (Turned panel DeskTask ∷ before)
  pub of : AreOfSite site before
  pub in_force : AreInForce site kept (tick_of before) (operations site kept before).done settings

pub record CanTurn (site : Site) (settings : Retained) (panel : ℕ) (desk : Desk) : Type 0 where
  pub kept : Retained
  pub before : List Moment
  pub stands : DesksFor site kept before desk
  pub may : MayTakeTurn site kept settings panel before

-- a history after which Keep may have its turn
pub record MayTakeKeepTurn (site : Site) (failed : Bool) (before : List Moment) : Type 0 where
  pub valid : IsValid site
  pub run : IsRun site.panels (Kept failed ∷ before)
  pub of : AreOfSite site before

pub record CanAnswerAll (failed : Bool) (desk : Desk) : Type 0 where
  pub site : Site
  pub kept : Retained
  pub before : List Moment
  pub stands : DesksFor site kept before desk
  pub may : MayTakeKeepTurn site failed before

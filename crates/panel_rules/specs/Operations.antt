-- Operations that are asked for, the one answer of each, what waits for Keep, and what is done. What is done
-- in a tick is in force from the next tick on.
use Rattle.std.specs.Prelude.{ℕ, ◌+◌, ◌==◌, ◌&&◌, ◌||◌, nat_le, nat_lt, Bool, false, List, [], ◌∷◌, ◌++◌, length}
use Rattle.std.specs.Prelude.{filter, Option, Some, None, option_map, if◌then◌else◌}
use Rattle.std.specs.List.{list_any, fold}
use Rattle.tick_units.specs.declared.task.Task.TheVariants.{Desk}
use Rattle.site_types.specs.declared.event.Event.{Event}
use Rattle.site_types.specs.declared.event.Event.TheVariants.{Op}
use Rattle.site_types.specs.declared.operation.Operation.{Operation}
use Rattle.site_types.specs.declared.retained.Retained.{Retained}
use Rattle.site_types.specs.declared.site.Site.{Site}
use Rattle.site_types.specs.Done.{Done, Setting, Counter, in_force, is_on, is_setting, operation_setting, value_set}
use Rattle.site_types.specs.Limits.{most_operations}
use Rattle.access_levels.specs.Levels.{level_of, needed_by}
use Rattle.face_text.specs.Faces.{same_truth}
use Rattle.panel_rules.specs.Moments.{Moment, Began, Happened, Turned, Kept, tick_of}

-- an operation that is asked for: its number over the run, its tick and panel, how many operations of the
-- panel came earlier in the tick, the level of its code
pub record Request : Type 0 where
  pub number : ℕ
  pub tick : ℕ
  pub panel : ℕ
  pub earlier : ℕ
  pub level : ℕ
  pub operation : Operation

-- the setting that it is on, if it is on one
abbrev pub setting_asked : Request → Option Setting
setting_asked request = operation_setting request.panel request.operation

-- of some operations those of a panel in a tick
abbrev pub requests_in : ℕ → ℕ → List Request → List Request
requests_in panel tick requests = filter (λ (r : Request). (r.panel == panel) && (r.tick == tick)) requests

-- an operation that is asked for now, after those that came before it
abbrev pub request_of : ℕ → ℕ → ℕ → Operation → List Request → Request
request_of tick panel level operation before =
    record {
      number = length before + 1;
      tick = tick;
      panel = panel;
      earlier =
          length (requests_in panel tick before);
      level = level;
      operation = operation;
    }

-- the operation of an event, behind those that came before it
abbrev pub and_request : Site → ℕ → Event → List Request → List Request
and_request site tick (Op panel code operation) before =
    before ++ request_of tick panel (level_of site (option_map (λ label. label.bytes) code)) operation before
    ∷ []
and_request site tick _ before = before

-- all operations asked for so far, of all panels, in order of their lines
abbrev pub requests : Site → List Moment → List Request
requests site [] = []
requests site (Began ∷ before) = requests site before
requests site (Happened event ∷ before) = and_request site (tick_of before) event (requests site before)
requests site (Turned panel task ∷ before) = requests site before
requests site (Kept failed ∷ before) = requests site before

-- what is answered to an operation
pub data Reply : Type 0 where
  Busy : Reply
  Denied : (needs : ℕ) → (has : ℕ) → Reply
  Waiting : Reply
  Already : Reply
  Store : Reply
  WasDone : Reply

-- an answer, and the tick in which it is given
pub record Answered : Type 0 where
  pub request : Request
  pub tick : ℕ
  pub reply : Reply

-- what became of operations: those that wait for Keep, in the order in which they were accepted; the answers
-- given and the operations done, the newest first
pub record Operations : Type 0 where
  pub waiting : List Request
  pub answers : List Answered
  pub done : List Done

abbrev pub no_operations : Operations
no_operations = record { waiting = []; answers = []; done = [] }

-- an earlier operation on the setting was accepted, did not fail to be stored, and is not yet in force: it
-- waits for Keep, or was done in this very tick
abbrev pub is_unsettled : Setting → ℕ → Operations → Bool
is_unsettled setting tick so_far =
    list_any (λ (r : Request). is_setting setting (setting_asked r)) so_far.waiting
    || list_any (λ (d : Done). is_on setting d && nat_le tick d.tick) so_far.done

-- the setting has the value already; of a counter this is never said
abbrev pub stands_so : Site → Retained → Setting → ℕ → Bool → List Done → Bool
stands_so site kept (Counter panel) tick value done = false
stands_so site kept setting tick value done = same_truth (in_force site kept setting tick done) value

-- the rows on settings: an operation that is on none is done at once; else it waits behind an earlier one, or
-- finds its setting so, or goes to Keep
abbrev pub setting_reply : Site → Retained → Request → Operations → Option Setting → Option Reply
setting_reply site kept request so_far None = Some WasDone
setting_reply site kept request so_far (Some setting) =
    if is_unsettled setting request.tick so_far then Some Waiting
    else (if stands_so site kept setting request.tick (value_set request.operation) so_far.done then Some
    Already else None)

-- the answer at Desk's turn by the first row that applies: busy, denied, then the rows on settings; none
-- where the operation is accepted for Keep
abbrev pub desk_reply : Site → Retained → Request → Operations → Option Reply
desk_reply site kept request so_far =
    if nat_le most_operations request.earlier then Some Busy
    else (if nat_lt request.level (needed_by request.operation) then Some (Denied (needed_by request.operation) request.level)
    else setting_reply site kept request so_far (setting_asked request))

-- an operation as it is done in a tick
abbrev pub done_in : ℕ → Request → Done
done_in tick request = record { tick = tick; panel = request.panel; operation = request.operation }

-- what is done at Desk's turn
abbrev pub and_done : Request → Reply → List Done → List Done
and_done request WasDone done = done_in request.tick request ∷ done
and_done request _ done = done

-- after Desk gave an answer, or accepted the operation for Keep
abbrev pub after_reply : Request → Operations → Option Reply → Operations
after_reply request so_far None = record so_far { waiting = so_far.waiting ++ request ∷ [] }
after_reply request so_far (Some reply) =
    record so_far {
      answers = record { request = request; tick = request.tick; reply = reply } ∷ so_far.answers;
      done = and_done request reply so_far.done;
    }

abbrev pub after_request : Site → Retained → Operations → Request → Operations
after_request site kept so_far request = after_reply request so_far (desk_reply site kept request so_far)

-- after Desk took operations, one after another
abbrev pub after_desk : Site → Retained → List Request → Operations → Operations
after_desk site kept asked so_far = fold (after_request site kept) so_far asked

-- the answer of a Keep turn
abbrev pub keep_reply : Bool → Reply
keep_reply failed = if failed then Store else WasDone

abbrev pub answer_all : ℕ → Bool → List Request → List Answered → List Answered
answer_all tick failed waiting answers =
    fold (λ (before : List Answered) (request : Request). record {
      request = request;
      tick = tick;
      reply =
          keep_reply failed;
    } ∷ before) answers waiting

abbrev pub do_all : ℕ → List Request → List Done → List Done
do_all tick waiting done =
    fold (λ (before : List Done) (request : Request). done_in tick request ∷ before) done waiting

-- a turn of Keep answers each operation that waits: it is done, or could not be stored
abbrev pub after_keep : ℕ → Bool → Operations → Operations
after_keep tick failed so_far =
    record {
      waiting = [];
      answers = answer_all tick failed so_far.waiting so_far.answers;
      done = if failed then so_far.done else do_all tick so_far.waiting so_far.done;
    }

-- what became of all operations so far
abbrev pub operations : Site → Retained → List Moment → Operations
operations site kept [] = no_operations
operations site kept (Began ∷ before) = operations site kept before
operations site kept (Happened event ∷ before) = operations site kept before
operations site kept (Turned panel Desk ∷ before) =
    after_desk site kept (requests_in panel (tick_of before) (requests site before))
    (operations site kept before)
operations site kept (Turned panel task ∷ before) = operations site kept before
operations site kept (Kept failed ∷ before) = after_keep (tick_of before) failed (operations site kept before)

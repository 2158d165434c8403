-- What Desk says of an operation that is one of the first of its panel and tick.
use Rattle.std.specs.Prelude.{◌≡◌, ◌<◌, ◌||◌, ◌++◌, ℕ, Bool, false, List, [], ◌∷◌, option_map, Option, if◌then◌else◌}
use Rattle.std.specs.List.{AllByRecursion, list_any}
use Rattle.face_text.specs.declared.op_answer.OpAnswer.{OpAnswer}
use Rattle.face_text.specs.declared.reply.Reply.{Reply}
use Rattle.face_text.specs.declared.reply.Reply.TheVariants.{Done as DoneReply, Store as StoreReply}
use Rattle.face_text.specs.Faces.{same_truth}
use Rattle.site_types.specs.declared.retained.Retained.{Retained}
use Rattle.site_types.specs.declared.site.Site.{Site}
use Rattle.site_types.specs.Done.{Done, Setting, Counter, IsSetting, at_opening, in_force, is_setting}
use Rattle.site_types.specs.Done.{operation_setting}
use Rattle.site_types.specs.Limits.{most_operations}
use Rattle.site_types.specs.Changes.{IsPanelNumber}
use Rattle.panel_rules.specs.Operations.{Operations, desk_reply}
use Rattle.operation_desk.specs.declared.done_operation.DoneOperation.{DoneOperation}
use Rattle.operation_desk.specs.declared.request.Request.{Request}
use Rattle.operation_desk.specs.Requests.{with_done, reply_from, request_from, requests_from}

-- an operation on the setting waits, or was done in the tick
abbrev pub waits_or_done : Setting → List Request → List DoneOperation → Bool
waits_or_done setting waiting done =
    list_any (λ (r : Request). is_setting setting (operation_setting r.panel r.operation)) waiting
    || list_any (λ (d : DoneOperation). is_setting setting (operation_setting d.panel d.operation)) done

-- the setting has a value already; of a counter this is never said
abbrev pub has_value : Site → Retained → Setting → Bool → Bool
has_value site settings (Counter panel) value = false
has_value site settings setting value = same_truth (at_opening site settings setting) value

-- settings are those that are in force in a tick, with these operations done
abbrev pub AreInForce : Site → Retained → ℕ → List Done → Retained → Type 0
AreInForce site kept tick done settings = (setting : Setting) → IsSetting setting
    → at_opening site settings setting ≡ in_force site kept setting tick done

-- the operations that wait and those that were done in a tick are what became of operations
pub record TellsOpen (tick : ℕ) (so_far : Operations) (waiting : List Request) (done : List DoneOperation) :
    Type 0 where
  pub waiting_is : requests_from waiting ≡ so_far.waiting
  pub older : List Done
  pub done_is : so_far.done ≡ with_done tick done older
  pub earlier : AllByRecursion (λ (d : Done). d.tick < tick) older

-- the answer is the rules', whatever the desk stands for
abbrev pub Rules : Site → Retained → List Request → List DoneOperation → Request → Option Reply → Type 0
Rules site settings waiting done request reply =
    (kept : Retained) (so_far : Operations)
    → TellsOpen request.tick.0 so_far waiting done → AreInForce site kept request.tick.0 so_far.done settings
    → IsPanelNumber request.panel → request.earlier < most_operations
    → option_map reply_from reply ≡ desk_reply site kept (request_from request) so_far

-- an operation's answer by its number
abbrev pub numbered_reply : Request → Reply → OpAnswer
numbered_reply request reply = record { number = request.number; reply = reply }

-- what was done, with an operation whose answer says so
abbrev pub done_with : Request → Reply → List DoneOperation → List DoneOperation
done_with request DoneReply done = done ++ record { panel = request.panel; operation = request.operation } ∷ []
done_with request _ done = done

-- the answer of a turn of Keep
abbrev pub kept_reply : Bool → Reply
kept_reply failed = if failed then StoreReply else DoneReply

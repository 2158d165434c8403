-- Operations that are asked for and what becomes of them: what the program keeps of them stands for what the
-- definitions say.
use Rattle.std.specs.Prelude.{◌≡◌, List, [], ◌∷◌, map}
use Rattle.site_types.specs.declared.retained.Retained.{Retained}
use Rattle.site_types.specs.declared.site.Site.{Site}
use Rattle.panel_rules.specs.Moments.{Moment as MomentOf}
use Rattle.panel_rules.specs.Operations.{Request as RequestOf, Answered as AnsweredOf, Operations, Reply as ReplyOf}
use Rattle.panel_rules.specs.Operations.{Busy as BusyOf, Denied as DeniedOf, Waiting as WaitingOf}
use Rattle.panel_rules.specs.Operations.{Already as AlreadyOf, Store as StoreOf, WasDone as WasDoneOf, operations}
use Rattle.panel_rules.specs.Operations.{requests}
use Rattle.plain_operations.specs.declared.request.Request.{Request}
use Rattle.plain_operations.specs.declared.op_answered.OpAnswered.{OpAnswered as Answered}
use Rattle.plain_operations.specs.declared.reply.Reply.{Reply}
use Rattle.plain_operations.specs.declared.reply.Reply.TheVariants.{Busy, Denied, Waiting, Already, Store, WasDone}
use Rattle.plain_operations.specs.declared.outcomes.Outcomes.{Outcomes}
use Rattle.plain_operations.specs.declared.desk.Desk.{Desk}
use Rattle.plain_history.specs.Histories.{all_done}

abbrev pub request_of : Request → RequestOf
request_of r = record {
  number = r.number;
  tick = r.tick.0;
  panel = r.panel;
  earlier = r.earlier;
  level =
      r.level;
  operation = r.operation;
}

abbrev pub reply_of : Reply → ReplyOf
reply_of Busy = BusyOf
reply_of (Denied needs has) = DeniedOf needs has
reply_of Waiting = WaitingOf
reply_of Already = AlreadyOf
reply_of Store = StoreOf
reply_of WasDone = WasDoneOf

abbrev pub answered_of : Answered → AnsweredOf
answered_of a = record { request = request_of a.request; tick = a.tick.0; reply = reply_of a.reply }

abbrev pub all_requests : List Request → List RequestOf
all_requests requests = map request_of requests

abbrev pub and_answered : List Answered → List AnsweredOf → List AnsweredOf
and_answered [] before = before
and_answered (answered ∷ later) before = and_answered later (answered_of answered ∷ before)

-- the answers given, the oldest of them first
abbrev pub all_answered : List Answered → List AnsweredOf
all_answered answers = and_answered answers []

-- what became of operations, as the definitions have it
abbrev pub outcomes_of : Outcomes → Operations
outcomes_of o =
    record {
      waiting = all_requests o.waiting.items;
      answers = all_answered o.answers.items;
      done =
          all_done o.done.items;
    }

-- a desk that stands for a history
pub record StandsForDesk (site : Site) (kept : Retained) (history : List MomentOf) (desk : Desk) :
    Type 0 where
  pub requested : all_requests desk.requests.items ≡ requests site history
  pub became : outcomes_of desk.outcomes ≡ operations site kept history

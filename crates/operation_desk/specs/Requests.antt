-- What the desk keeps of operations, as the rules have it.
use Rattle.std.specs.Prelude.{ℕ, ◌==◌, ◌&&◌, nat_lt, Bool, List, [], ◌∷◌, map}
use Rattle.face_text.specs.declared.reply.Reply.{Reply}
use Rattle.face_text.specs.declared.reply.Reply.TheVariants.{Done, Denied, Waiting, Already, Store}
use Rattle.site_types.specs.Done.{Done as DoneOf}
use Rattle.site_types.specs.Limits.{most_operations}
use Rattle.panel_rules.specs.Operations.{Request as RequestOf, Reply as ReplyOf, Denied as DeniedOf}
use Rattle.panel_rules.specs.Operations.{Waiting as WaitingOf, Already as AlreadyOf, Store as StoreOf, WasDone}
use Rattle.operation_desk.specs.declared.done_operation.DoneOperation.{DoneOperation}
use Rattle.operation_desk.specs.declared.request.Request.{Request}

abbrev pub request_from : Request → RequestOf
request_from r = record {
  number = r.number;
  tick = r.tick.0;
  panel = r.panel;
  earlier = r.earlier;
  level = r.level;
  operation = r.operation;
}

abbrev pub requests_from : List Request → List RequestOf
requests_from requests = map request_from requests

-- an answer that isn't busy
abbrev pub reply_from : Reply → ReplyOf
reply_from Done = WasDone
reply_from (Denied needs has) = DeniedOf needs has
reply_from Waiting = WaitingOf
reply_from Already = AlreadyOf
reply_from Store = StoreOf

abbrev pub done_from : ℕ → DoneOperation → DoneOf
done_from tick d = record { tick = tick; panel = d.panel; operation = d.operation }

-- operations done in a tick, the oldest first, before others that were done
abbrev pub with_done : ℕ → List DoneOperation → List DoneOf → List DoneOf
with_done tick [] before = before
with_done tick (d ∷ later) before = with_done tick later (done_from tick d ∷ before)

-- one of the first operations of its panel in a tick
abbrev pub is_early : ℕ → RequestOf → Bool
is_early tick r = (r.tick == tick) && nat_lt r.earlier most_operations

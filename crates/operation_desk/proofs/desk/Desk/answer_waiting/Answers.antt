use Rattle.std.proofs.Common.{◌≡◌, ◌∙◌, ap, arith, length, subst}
use Rattle.std.proofs.lemmas.List.{length-map}
use Rattle.panel_rules.specs.Operations.{operations}
use Rattle.operation_desk.specs.Changes.{HasAnswered}
use Rattle.operation_desk.specs.Requests.{request_from}
use Rattle.operation_desk.proofs.Keeping.{answered_more, any_request, room_kept}
use Rattle.operation_desk.proofs.Turns.{read_at, rest_then}
use Rattle.operation_desk.proofs.desk.Desk.answer_waiting.Goals as goal

pub answer-requires-clause-room : goal.answer-requires-clause-room
answer-requires-clause-room c =
    let r = c.requires in
    let within = c.loop-place-test.true in
    let count = c.len-place-end.ensures.value in
    let is =
    read_at c.args.self.now.waiting.items _ _ c.loop-place.place any_request c.as_slice.ensures.value (ap (λ a. a.items) c.loop-place.invariant.waiting)
    (omega (arith, within, count)) in
    room_kept r.site r.kept c.args.failed r.before c.args.self.now r.stands r.may c.loop-place.place _ is c.loop-place.self
    (c.loop-place.invariant.told r.site r.kept r.before r.stands r.may)

pub loop-place-preserved : goal.loop-place-preserved
loop-place-preserved c =
    let inv = c.loop-place.invariant in
    let within = c.loop-place-test.true in
    let count = c.len-place-end.ensures.value in
    record {
      rest = rest_then c.args.self.now c.loop-place.self c.answer.new.self inv.rest c.answer.ensures.rest;
      waiting = c.answer.ensures.waiting ∙ inv.waiting;
      told =
          λ site kept before h m. answered_more site kept c.args.failed before c.args.self.now h m c.loop-place.place _
          (read_at c.args.self.now.waiting.items _ _ c.loop-place.place _ c.as_slice.ensures.value (ap (λ a. a.items) inv.waiting)
          (omega (arith, within, count))) c.loop-place.self c.answer.new.self c.keep_reply-reply.result (inv.told site kept before h m)
          c.keep_reply-reply.ensures c.answer.ensures.ops c.answer.ensures.done c.answer.ensures.waiting c.answer.ensures.rest;
    }

pub returns-clause-told : goal.returns-clause-told
returns-clause-told c site kept before h m =
    let past = c.loop-place-test.false in
    let l = c.loop-place.auto.place-end in
    let count = c.len-place-end.ensures.value in
    let long = ap length h.outcomes.unsettled.waiting_is in
    let same = length-map c.args.self.now.waiting.items request_from in
    let whole : c.loop-place.place ≡ length (operations site kept before).waiting = omega (arith, past, l, count, long, same) in
    subst (λ n. HasAnswered site kept c.args.failed n before c.loop-place.self) whole (c.loop-place.invariant.told site kept before h m)

use Rattle.std.proofs.Common.{◌∙◌, ap, sym}
use Rattle.std.specs.Prelude.{option_map}
use Rattle.operation_desk.specs.Requests.{reply_from}
use Rattle.operation_desk.proofs.Taking.{room_taken, ruled_by, taken}
use Rattle.operation_desk.proofs.desk.Desk.take.Goals as goal

pub answer-requires-clause-room : goal.answer-requires-clause-room
answer-requires-clause-room c =
    let r = c.requires in
    let site = c.args.site.now in
    let settings = c.args.settings.now in
    let ruled =
    ruled_by site r.kept settings r.asked r.tick r.so_far c.args.request.now c.args.self.now c.as_slice.result.now c.as_slice-2.result.now c.rule.result
    c.rule.ensures r.stands r.may c.as_slice.ensures.value c.as_slice-2.ensures.value in
    room_taken site r.kept settings r.asked r.tick r.so_far c.args.request.now c.in-Some.reply c.args.self.now r.stands r.may
    (ap (option_map reply_from) (sym c.in-Some.is) ∙ ruled)

pub returns-in-Some-clause-took : goal.returns-in-Some-clause-took
returns-in-Some-clause-took c kept asked tick so_far h may =
    let site = c.args.site.now in
    let settings = c.args.settings.now in
    let ruled =
    ruled_by site kept settings asked tick so_far c.args.request.now c.args.self.now c.as_slice.result.now c.as_slice-2.result.now c.rule.result
    c.rule.ensures h may c.as_slice.ensures.value c.as_slice-2.ensures.value in
    taken site kept settings asked tick so_far c.args.request.now c.in-Some.reply c.args.self.now h may
    (ap (option_map reply_from) (sym c.in-Some.is) ∙ ruled) c.answer.new.self c.answer.ensures.ops c.answer.ensures.done c.answer.ensures.waiting
    c.answer.ensures.rest

use Rattle.std.proofs.lemmas.List.{take_all}
use Rattle.plain_operations.proofs.Desks.{answer_more}
use Rattle.plain_operations.proofs.outcomes.answer_all.Goals as goal

pub loop-request-preserved : goal.loop-request-preserved
loop-request-preserved c =
    answer_more c.args.tick c.args.failed c.args.waiting.now c.loop-request.request-index _ c.loop-request.answers.items _ c.keep_reply-reply.result _
    c.loop-request-test.true c.keep_reply-reply.ensures c.loop-request.invariant c.in_ok-push.ensures.items

pub returns : goal.returns
returns c = rw (take_all c.loop-request.request-index c.args.waiting.now c.loop-request-test.false) at c.loop-request.invariant

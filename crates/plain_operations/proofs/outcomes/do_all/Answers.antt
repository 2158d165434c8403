use Rattle.std.proofs.lemmas.List.{take_all}
use Rattle.plain_operations.proofs.Desks.{do_more}
use Rattle.plain_operations.proofs.outcomes.do_all.Goals as goal

pub loop-request-preserved : goal.loop-request-preserved
loop-request-preserved c =
    do_more c.args.tick.0 c.args.waiting.now c.loop-request.request-index _ c.loop-request.done.items _ c.done_in.result _
    c.loop-request-test.true c.done_in.ensures c.loop-request.invariant c.in_ok-push.ensures.items

pub returns : goal.returns
returns c = rw (take_all c.loop-request.request-index c.args.waiting.now c.loop-request-test.false) at c.loop-request.invariant

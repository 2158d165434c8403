use Rattle.plain_history.proofs.Later.{override_more}
use Rattle.plain_history.proofs.latest.override_done_in.Goals as goal

pub loop-one-preserved : goal.loop-one-preserved
loop-one-preserved c =
    override_more c.args.done.now c.loop-one.one-index _ c.loop-one-test.true _ _ _ c.loop-one.found c.found_after-found.result c.loop-one.invariant
    c.found_after-found.ensures

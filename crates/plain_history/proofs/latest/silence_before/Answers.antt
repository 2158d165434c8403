use Rattle.plain_history.proofs.Later.{silence_more}
use Rattle.plain_history.proofs.latest.silence_before.Goals as goal

pub loop-one-preserved : goal.loop-one-preserved
loop-one-preserved c =
    silence_more c.args.done.now c.loop-one.one-index _ c.loop-one-test.true _ _ _ _ c.loop-one.invariant c.silence_after-silence.ensures

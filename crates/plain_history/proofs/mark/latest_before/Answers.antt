use Rattle.plain_history.proofs.Later.{latest_more}
use Rattle.plain_history.specs.Settings.{leaves}
use Rattle.plain_history.proofs.mark.latest_before.Goals as goal

pub loop-one-preserved : goal.loop-one-preserved
loop-one-preserved c =
    latest_more c.args.done.now c.loop-one.one-index _ c.loop-one-test.true (leaves c.args.site.now c.args.mark) _ c.loop-one.latest
    c.latest_after-latest.result c.loop-one.invariant c.latest_after-latest.ensures

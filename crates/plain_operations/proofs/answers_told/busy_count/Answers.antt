use Rattle.plain_operations.proofs.Tellings.{busy_more, count_within}
use Rattle.plain_operations.proofs.answers_told.busy_count.Goals as goal

pub loop-answered-preserved : goal.loop-answered-preserved
loop-answered-preserved c = (
  busy_more c.args.now.now c.loop-answered.answered-index _ c.loop-answered-test.true c.args.panel c.loop-answered.count c.count_after-count.result
      c.loop-answered.invariant.0 c.count_after-count.ensures,
  count_within _ c.loop-answered.count c.count_after-count.result c.loop-answered.answered-index c.loop-answered.invariant.1
      c.count_after-count.ensures,
)

use Rattle.std.proofs.Common.{◌∙◌}
use Rattle.plain_operations.proofs.Tellings.{told_more, with_none, with_some}
use Rattle.plain_operations.proofs.answers_told.told.Goals as goal
use Rattle.plain_operations.proofs.answers_told.told.Goals.{in-None, in-Some+else-as_slice-ge64}

pub loop-answered-preserved : goal.loop-answered-preserved
loop-answered-preserved c =
    let more =
    told_more c.args.now.now c.loop-answered.answered-index _ c.loop-answered-test.true c.loop-answered.ops c.told_answer.result
    c.loop-answered.invariant c.told_answer.ensures in
    elim c.match-told_answer.branch [
      | in-None w ↦ with_none c.loop-answered.ops _ _ c.told_answer.result more w.in-None.is w.ops-is
      | in-Some+else-as_slice-ge64 w ↦ with_some c.loop-answered.ops _ _ c.told_answer.result more _ w.in-Some.is (w.ops-is ∙ w.push.ensures)
    ]

use Rattle.blocked_points.specs.Operations.{done_newest_first}
use Rattle.due_outputs.proofs.DueOn.{asked_decides, excused_decides}
use Rattle.due_outputs.proofs.due_outputs.DueOutputs.is_due_on.Goals as goal

pub returns-then-excuses : goal.returns-then-excuses
returns-then-excuses c site kept operations ticks at due excused =
    excused_decides site kept (done_newest_first operations) ticks c.args.place c.args.output.now at c.excuses.result c.if-excuses.true
    (c.excuses.ensures site kept operations _ at excused)

pub returns-else-excuses : goal.returns-else-excuses
returns-else-excuses c site kept operations ticks at due excused =
    asked_decides site kept (done_newest_first operations) ticks c.args.place c.args.output.now at c.excuses.result c.is_due.result c.if-excuses.false
    (c.excuses.ensures site kept operations _ at excused) (c.is_due.ensures site kept (done_newest_first operations) ticks due at)

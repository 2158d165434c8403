use Rattle.answer_lanes.proofs.WholeRuns.{first_whole}
use Rattle.answer_lanes.proofs.whole.whole_runs.Goals as goal

pub returns-then-run-most : goal.returns-then-run-most
returns-then-run-most g c =
    first_whole g.S.Several.item_at c.args.most c.args.runs.now c.run-item.result c.in-len1-up.len_at_least c.run-item.is c.if-run-most.true

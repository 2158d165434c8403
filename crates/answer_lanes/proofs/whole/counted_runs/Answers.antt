use Rattle.std.proofs.Common.{◌+◌, ap}
use Rattle.answer_lanes.proofs.WholeRuns.{one_whole_more}
use Rattle.answer_lanes.proofs.whole.counted_runs.Goals as goal

pub loop-run-preserved : goal.loop-run-preserved
loop-run-preserved g c =
    let l = c.loop-run in
    record {
      at = ap (λ k. k + 1) l.invariant.at;
      before = one_whole_more g.S.Several.item_at c.args.most c.args.runs.now l.run-index l.whole.runs l.whole.items c.run-item.result
          c.loop-run-test.true c.run-item.is l.invariant.at l.invariant.before c.if-run-most.false;
    }

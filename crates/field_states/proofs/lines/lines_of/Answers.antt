use Rattle.std.proofs.Common.{◌+◌, [], subst, sym, take}
use Rattle.field_states.specs.Lines.{LinesStand}
use Rattle.field_states.proofs.LineLists.{one_more}
use Rattle.field_states.proofs.Reaching.{got_item}
use Rattle.field_states.proofs.lines.lines_of.Goals as goal

pub loop-plan-preserved : goal.loop-plan-preserved
loop-plan-preserved c =
    let plans = c.args.plans.now in
    let n = c.loop-plan.plan-index in
    let plan = c.plan-item.result in
    subst (LinesStand (take (n + 1) plans) []) (sym c.in_ok-push.ensures.items)
    (one_more plans [] c.loop-plan.lines.items n plan c.new.result (got_item plans n plan c.loop-plan-test.true c.plan-item.is) c.new.ensures
    c.loop-plan.invariant)

use Rattle.std.proofs.Common.{◌++◌, ◌∙◌, All, ap, arith, subst, sym, take}
use Rattle.answer_lanes.specs.Runs.{HoldsItems}
use Rattle.answer_lanes.proofs.Moving.{with_value}
use Rattle.answer_lanes.proofs.WholeRuns.{few_whole}
use Rattle.answer_lanes.proofs.lane.move_whole.Goals as goal

pub returns-clause-moved : goal.returns-clause-moved
returns-clause-moved g c =
    let whole = c.whole_runs-whole in
    let front = c.as_slice-front in
    let held = subst (All HoldsItems) (sym front.ensures) c.requires.held in
    let few = few_whole g.S.Several.item_at c.args.most front.result.now whole.result.runs whole.result.items whole.ensures held in
    let room = c.requires.room in
    let extend = c.try_extend_from_slice-room in
    with_value extend.result (extend.ensures.variant.1 (omega (arith, few, room))) extend.ensures.ok
    ∙ ap (λ runs. c.args.into.now.items ++ take whole.result.runs runs) front.ensures

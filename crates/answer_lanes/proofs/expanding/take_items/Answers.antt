use Rattle.std.proofs.Common.{rules, All, ◌++◌, ◌∙◌, ap, sym, subst, length, length-take, arith}
use Rattle.tick_units.specs.Lane.{turn_count}
use Rattle.answer_lanes.specs.Runs.{HoldsItems, all_items}
use Rattle.answer_lanes.proofs.expanding.take_items.Goals as goal

pub put_items-requires : goal.put_items-requires
put_items-requires g c =
    let lane = c.args.lane.now in
    let few = c.requires.few in
    let none = ap length c.requires.empty.1 in
    let moved = ap (λ rs. length (all_items g.S.Several.item_at rs)) c.as_slice.ensures.value ∙ ap length c.take_turn.ensures.moved
    ∙ length-take (turn_count lane) lane.items in
    ((search rules), (subst (All HoldsItems) (sym c.as_slice.ensures.value) c.take_turn.ensures.held, omega (arith, none, moved, few)))

pub returns-clause-moved : goal.returns-clause-moved
returns-clause-moved g c =
    c.put_items.ensures ∙ ap (λ xs. xs ++ all_items g.S.Several.item_at c.as_slice.result.now) c.requires.empty.1
    ∙ ap (all_items g.S.Several.item_at) c.as_slice.ensures.value ∙ c.take_turn.ensures.moved

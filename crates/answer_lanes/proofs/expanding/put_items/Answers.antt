use Rattle.std.proofs.Common.{rules, ◌++◌, ◌∙◌, ap, sym, subst, length, take, append_assoc, length-append, arith}
use Rattle.std.proofs.lemmas.List.{take_all}
use Rattle.answer_lanes.specs.Runs.{HoldsItems, all_items, items_of}
use Rattle.answer_lanes.proofs.Expanded.{no_more_than_all, one_run_more}
use Rattle.answer_lanes.proofs.expanding.put_items.Goals as goal

pub put_all-requires : goal.put_all-requires
put_all-requires g c =
    let item_at = g.S.Several.item_at in
    let l = c.loop-run in
    let run = c.run-item.result in
    let runs = c.args.runs.now in
    let held = subst HoldsItems (sym c.run-item.is) (c.requires.held l.run-index run c.loop-run-test.true) in
    let few = no_more_than_all item_at runs l.run-index run c.loop-run-test.true c.run-item.is in
    let so_far = ap length l.invariant ∙ length-append c.args.into.now.items (all_items item_at (take l.run-index runs)) in
    let room = c.requires.room in
    ((search rules), (held.is, omega (arith, few, so_far, room)))

pub loop-run-preserved : goal.loop-run-preserved
loop-run-preserved g c =
    let item_at = g.S.Several.item_at in
    let l = c.loop-run in
    let runs = c.args.runs.now in
    let before = c.args.into.now.items in
    c.put_all.ensures ∙ ap (λ xs. xs ++ items_of item_at c.run-item.result) l.invariant
    ∙ append_assoc before (all_items item_at (take l.run-index runs)) (items_of item_at c.run-item.result)
    ∙ ap (λ xs. before ++ xs) (sym (one_run_more item_at runs l.run-index c.run-item.result c.loop-run-test.true c.run-item.is))

pub returns : goal.returns
returns g c =
    let past = c.loop-run-test.false in
    c.loop-run.invariant ∙ ap (λ rs. c.args.into.now.items ++ all_items g.S.Several.item_at rs) (take_all c.loop-run.run-index c.args.runs.now past)

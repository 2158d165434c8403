use Rattle.std.proofs.Common.{◌≡◌, ◌∙◌, ◌++◌, ◌∷◌, [], map, ap, sym, subst, arith}
use Rattle.std.specs.List.{range_with_len}
use Rattle.answer_lanes.specs.Blocks.{eight_finding_at}
use Rattle.panel_conditions.specs.Changes.{TakesPoints}
use Rattle.panel_conditions.proofs.BlockRuns.{eight_again, points_none, points_then}
use Rattle.panel_conditions.proofs.Runs.{first_more}
use Rattle.panel_conditions.proofs.points.Points.take_eight.Goals as goal

pub returns-then-has_eight : goal.returns-then-has_eight
returns-then-has_eight c = eight_again c.args.block.now c.args.number c.args.self.now (c.has_eight.ensures c.if-has_eight.true)

pub loop-place-init : goal.loop-place-init
loop-place-init c = points_none c.args.self.now

pub loop-place-preserved : goal.loop-place-preserved
loop-place-preserved c =
    let l = c.loop-place in
    let eight = c.eight-eight.result in
    let before = map (eight_finding_at eight) (range_with_len 0 l.place) in
    subst (λ found. TakesPoints found c.args.self.now c.take.new.self)
    (ap (λ f. before ++ f ∷ []) c.item_at.ensures ∙ sym (first_more eight_finding_at eight l.place))
    (points_then before (c.item_at.result ∷ []) c.args.self.now l.self c.take.new.self l.invariant
    (record { watches = c.take.ensures.watches; off = c.take.ensures.off; missing = c.take.ensures.missing }))

pub returns : goal.returns
returns c =
    let l = c.loop-place in
    let past = c.loop-place-test.false in
    let most = l.auto.place-end in
    let whole : l.place ≡ 8 = omega (arith, past, most) in
    subst (λ eight. TakesPoints (map (eight_finding_at eight) (range_with_len 0 8)) c.args.self.now l.self) c.eight-eight.ensures
    (subst (λ n. TakesPoints (map (eight_finding_at c.eight-eight.result) (range_with_len 0 n)) c.args.self.now l.self) whole l.invariant)

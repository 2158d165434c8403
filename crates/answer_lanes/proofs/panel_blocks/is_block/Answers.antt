use Rattle.std.proofs.Common.{◌∙◌, inl, inr, refl, sym, subst, ap, arith, slice_get}
use Rattle.std.proofs.lemmas.Bool.{cases_eq}
use Rattle.std.proofs.lemmas.Option.{slice_get_read}
use Rattle.answer_lanes.specs.Known.{place_in}
use Rattle.answer_lanes.specs.PanelBlocks.{HasAsked}
use Rattle.answer_lanes.proofs.panel_blocks.is_block.Goals as goal

pub loop-k-preserved : goal.loop-k-preserved
loop-k-preserved c k less =
    let points = c.args.points.now in
    let look = c.in-Some.ensures.lookup in
    let point = c.in-Some.point.now in
    elim (cases_eq k c.loop-k.k) [
      | inl same ↦
          subst (λ n. HasAsked points c.args.panel c.args.from n (place_in c.args.firsts.now n)) (sym same)
          (record {
            point = point;
            there = ap (slice_get points) (sym c.place_of.ensures) ∙ slice_get_read points _ c.place_of.result point refl look.3.0 look.1;
            asked = c.is_asked.ensures c.if-is_asked.true;
          })
      | inr other ↦ c.loop-k.invariant k (omega (arith, less, other))
    ]

pub returns : goal.returns
returns c all = let done = c.loop-k-test.false in record { from = c.args.from; all = λ k below. c.loop-k.invariant k (omega (arith, below, done)) }

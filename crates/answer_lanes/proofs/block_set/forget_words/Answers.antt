use Rattle.std.proofs.Common.{refl, arith}
use Rattle.std.proofs.lemmas.Option.{slice_get_read, slice_get_within}
use Rattle.answer_lanes.proofs.KnownBlocks.{forgets_more}
use Rattle.answer_lanes.proofs.block_set.forget_words.Goals as goal

pub loop-number-preserved : goal.loop-number-preserved
loop-number-preserved c =
    let l = c.loop-number in
    let below = c.loop-number-test.true in
    let size = l.invariant.size in
    let count = c.len-number-end.ensures in
    let there = slice_get_read l.blocks.items _ l.number c.index.result.now refl (omega (arith, below, size, count)) c.index.ensures in
    forgets_more l.number c.args.blocks.now.items l.blocks.items c.index.result.now there l.invariant

pub returns : goal.returns
returns c =
    let l = c.loop-number in
    let past = c.loop-number-test.false in
    let size = l.invariant.size in
    let count = c.len-number-end.ensures in
    record {
      none = λ n block there.
          let within = slice_get_within l.blocks.items n block there in
          l.invariant.none n block (omega (arith, within, past, size, count)) there;
      firsts = l.invariant.firsts;
    }

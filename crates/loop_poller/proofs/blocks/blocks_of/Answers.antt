use Rattle.std.proofs.Common.{◌∙◌, arith}
use Rattle.std.proofs.lemmas.List.{length-set}
use Rattle.loop_poller.proofs.BlockGroups.{blocks_more}
use Rattle.loop_poller.proofs.blocks.blocks_of.Goals as goal

pub loop-number-preserved : goal.loop-number-preserved
loop-number-preserved c =
    let l = c.loop-number in
    let size = l.invariant.size in
    let below = c.loop-number-test.true in
    record {
      size = length-set l.blocks.items l.number c.block_from.result ∙ size;
      blocks = blocks_more c.args.lines.now l.blocks.items l.number c.block_from.result (omega (arith, size, below))
          c.block_from.ensures l.invariant.blocks;
    }

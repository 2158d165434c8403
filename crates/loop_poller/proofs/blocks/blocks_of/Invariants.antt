use Rattle.std.proofs.Common.{◌≡◌, length}
use Rattle.loop_poller.specs.Blocks.{AreBlocks}
use Rattle.loop_poller.proofs.blocks.blocks_of.Given as goal

abbrev pub invariant-loop-number : goal.invariant-loop-number
invariant-loop-number l = record {
  size : length l.blocks.items ≡ l.count;
  blocks : AreBlocks l.lines l.blocks.items;
}

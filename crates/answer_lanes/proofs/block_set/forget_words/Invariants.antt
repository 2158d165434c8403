use Rattle.answer_lanes.proofs.KnownBlocks.{ForgetsFirst}
use Rattle.answer_lanes.proofs.block_set.forget_words.Given as goal

abbrev pub invariant-loop-number : goal.invariant-loop-number
invariant-loop-number l = ForgetsFirst l.number l.initial.blocks.items l.blocks.items

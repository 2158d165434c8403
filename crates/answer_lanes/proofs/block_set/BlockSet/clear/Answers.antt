use Rattle.answer_lanes.proofs.KnownBlocks.{empty_words, same_numbers}
use Rattle.answer_lanes.proofs.block_set.BlockSet.clear.Goals as goal

pub invariant_of-self : goal.invariant_of-self
invariant_of-self c =
    let old = c.self.inside in
    let blocks = c.forget_words.new.blocks.items in (
      empty_words c.clear.new.self old.blocks.items blocks c.clear.ensures.none c.forget_words.ensures,
      same_numbers old.numbers.items old.blocks.items blocks c.self.invariant.1 c.forget_words.ensures,
    )

use Rattle.std.proofs.Common.{refl}
use Rattle.answer_lanes.specs.Blocks.{block_answer_at}
use Rattle.coincidence.proofs.TakenRuns.{can_left, can_read, more_first, read_first}
use Rattle.coincidence.proofs.decide.Decide.pass_steady.Goals as goal

pub passes_at_once-requires : goal.passes_at_once-requires
passes_at_once-requires c = can_read block_answer_at c.loop-left.left.now _ c.in-len1-up.len_at_least _ _ (can_left block_answer_at c.loop-left.invariant c.requires)

pub loop-left-preserved : goal.loop-left-preserved
loop-left-preserved c =
    more_first block_answer_at c.loop-left.invariant _ _ _ (read_first block_answer_at c.loop-left.left.now _ c.in-len1-up.len_at_least _ _ _ _ (c.if-not-passes_at_once.ensures.passed refl))

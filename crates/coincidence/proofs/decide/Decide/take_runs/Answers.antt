use Rattle.coincidence.specs.Changes.{CanTakeRuns}
use Rattle.answer_lanes.specs.Blocks.{block_answer_at}
use Rattle.coincidence.proofs.TakenRuns.{all_first, all_found, can_left, can_read, more_first, none_left, read_first}
use Rattle.coincidence.proofs.decide.Decide.take_runs.Goals as goal
use Rattle.coincidence.proofs.decide.Decide.take_runs.Goals.{In-len1-up}

can_here : (c : In-len1-up) → CanTakeRuns block_answer_at c.loop-left.self c.loop-left.left.now c.loop-left.findings
can_here c = can_left block_answer_at c.loop-left.invariant (record { held = c.requires.runs; room = c.requires.room; may = c.requires.may })

pub take_block-requires : goal.take_block-requires
take_block-requires c = can_read block_answer_at c.loop-left.left.now _ c.in-len1-up.len_at_least _ _ (can_here (goal.at.take_block-requires c).In-len1-up)

pub pass_steady-left-requires-in-len1-up : goal.pass_steady-left-requires-in-len1-up
pass_steady-left-requires-in-len1-up c =
    can_left block_answer_at (read_first block_answer_at c.loop-left.left.now _ c.in-len1-up.len_at_least _ _ _ _ c.take_block.ensures)
    (can_here (goal.at.pass_steady-left-requires-in-len1-up c).In-len1-up)

pub loop-left-preserved : goal.loop-left-preserved
loop-left-preserved c =
    more_first block_answer_at c.loop-left.invariant _ _ _
    (more_first block_answer_at (read_first block_answer_at c.loop-left.left.now _ c.in-len1-up.len_at_least _ _ _ _ c.take_block.ensures) _ _ _ c.pass_steady-left-in-len1-up.ensures)

pub returns-clause-taken : goal.returns-clause-taken
returns-clause-taken c = all_first block_answer_at c.loop-left.invariant (none_left block_answer_at c.loop-left.left.now c.in_default.len_below)

pub returns-clause-findings : goal.returns-clause-findings
returns-clause-findings c = all_found block_answer_at c.loop-left.invariant (none_left block_answer_at c.loop-left.left.now c.in_default.len_below)

use Rattle.answer_lanes.specs.Places.{HasFirst}
use Rattle.answer_lanes.proofs.block_set.BlockSet.first.Given as goal

abbrev pub invariant-loop-firsts : goal.invariant-loop-firsts
invariant-loop-firsts l = HasFirst l.count l.all l.set

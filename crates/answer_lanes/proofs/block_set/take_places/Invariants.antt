use Rattle.answer_lanes.proofs.KnownBlocks.{TakesFirst}
use Rattle.answer_lanes.proofs.block_set.take_places.Given as goal

abbrev pub invariant-loop-k : goal.invariant-loop-k
invariant-loop-k l = TakesFirst l.k l.firsts l.number l.initial.numbers.items l.numbers.items

use Rattle.answer_lanes.specs.Blocks.{block_answer_at}
use Rattle.answer_lanes.specs.Runs.{HasShortCount, items_of}
use Rattle.coincidence.proofs.Eights.{TakesFront}
use Rattle.coincidence.proofs.decide.Decide.take_eights.Given as goal

abbrev pub invariant-loop-left : goal.invariant-loop-left
invariant-loop-left l = record {
  front : TakesFront l.initial.self (items_of block_answer_at l.run) (items_of block_answer_at l.left) l.initial.findings l.self l.findings;
  short : HasShortCount l.left;
}

abbrev pub decreases-loop-left : goal.decreases-loop-left
decreases-loop-left l = l.left.count

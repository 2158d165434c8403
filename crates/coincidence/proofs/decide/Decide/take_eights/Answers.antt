use Rattle.std.proofs.Common.{arith}
use Rattle.answer_lanes.specs.Blocks.{block_answer_at}
use Rattle.answer_lanes.specs.Runs.{items_of}
use Rattle.coincidence.proofs.Eights.{all_in_front, can_take_eight, eight_in_front, none_in_front}
use Rattle.coincidence.proofs.decide.Decide.take_eights.Goals as goal

pub loop-left-init : goal.loop-left-init
loop-left-init c = record {
  front = none_in_front c.args.self.now (items_of block_answer_at c.args.run.now) c.args.findings.now;
  short = c.requires.short;
}

pub take_eight-requires : goal.take_eight-requires
take_eight-requires c =
    let eight = c.first_eight-eight in
    can_take_eight c.args.run.now c.loop-left.left c.loop-left.invariant.front eight.result eight.ensures.items eight.ensures.few
    eight.ensures.eight c.requires

pub overflow_add-left : goal.overflow_add-left
overflow_add-left c =
    let few = c.first_eight-eight.ensures.few in
    let short = c.loop-left.invariant.short in
    omega (arith, few, short)

pub loop-left-preserved : goal.loop-left-preserved
loop-left-preserved c =
    let eight = c.first_eight-eight in
    let few = eight.ensures.few in
    let short = c.loop-left.invariant.short in
    record {
      front = eight_in_front c.args.run.now c.loop-left.left c.loop-left.invariant.front eight.result eight.ensures.items few
          c.take_eight.new.self c.take_eight.new.findings c.take_eight.ensures;
      short = omega (arith, few, short);
    }

pub returns : goal.returns
returns c = let none = c.loop-left-test.false in all_in_front c.args.run.now c.loop-left.left c.loop-left.invariant.front (omega (arith, none))

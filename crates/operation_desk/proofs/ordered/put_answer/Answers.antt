use Rattle.std.proofs.Common.{◌<◌, ◌++◌, ◌∷◌, List, length, not, subst, sym, take}
use Rattle.std.specs.Prelude.{filter}
use Rattle.face_text.specs.declared.op_answer.OpAnswer.{OpAnswer}
use Rattle.operation_desk.specs.Ordered.{comes_before}
use Rattle.operation_desk.proofs.Ordering.{room_before, room_behind}
use Rattle.operation_desk.proofs.ordered.put_answer.Goals as goal

pub push_if-requires : goal.push_if-requires
push_if-requires c wanted =
    rw c.loop-other.invariant (room_before (comes_before c.args.answer.number) c.args.answers.now c.loop-other.other-index 64 c.requires)

pub push-requires : goal.push-requires
push-requires c =
    rw c.loop-other.invariant (room_before (comes_before c.args.answer.number) c.args.answers.now c.loop-other.other-index 64 c.requires)

pub push_if-requires-in-loop-other-2 : goal.push_if-requires-in-loop-other-2
push_if-requires-in-loop-other-2 c wanted =
    let same = c.as_slice-other-items-2.ensures in
    let i = c.loop-other-2.other-index in
    let test = comes_before c.args.answer.number in
    rw c.loop-other-2.invariant
    (subst (λ (xs : List OpAnswer). length (filter test xs ++ c.args.answer ∷ filter (λ (y : OpAnswer). not (test y)) (take i xs)) < 64) same
    (room_behind test _ i 64 c.args.answer _ (subst (λ (xs : List OpAnswer). length xs < 64) (sym same) c.requires) c.loop-other-2-test.true wanted))

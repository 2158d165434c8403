use Rattle.std.proofs.Common.{◌≡◌, ◌∷◌, ◌++◌, not, take}
use Rattle.std.specs.Prelude.{filter}
use Rattle.face_text.specs.declared.op_answer.OpAnswer.{OpAnswer}
use Rattle.operation_desk.specs.Ordered.{comes_before}
use Rattle.operation_desk.proofs.ordered.put_answer.Given as goal

-- those of lower numbers so far
abbrev pub invariant-loop-other : goal.invariant-loop-other
invariant-loop-other l = l.ordered ≡ filter (comes_before l.answer.number) (take l.other-index l.fn.answers)

-- all of them, the answer, and those of higher numbers so far
abbrev pub invariant-loop-other-2 : goal.invariant-loop-other-2
invariant-loop-other-2 l =
    l.ordered ≡ filter (comes_before l.answer.number) l.fn.answers
    ++ l.answer ∷ filter (λ (other : OpAnswer). not (comes_before l.answer.number other)) (take l.other-index l.fn.answers)

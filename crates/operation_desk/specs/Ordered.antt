-- Answers by number.
use Rattle.std.specs.Prelude.{ℕ, nat_lt, not, Bool, List, ◌∷◌, ◌++◌, filter}
use Rattle.face_text.specs.declared.op_answer.OpAnswer.{OpAnswer}

abbrev pub comes_before : ℕ → OpAnswer → Bool
comes_before number answer = nat_lt answer.number number

-- an answer is put behind those of lower numbers
abbrev pub put_by_number : OpAnswer → List OpAnswer → List OpAnswer
put_by_number answer answers =
    filter (comes_before answer.number) answers
    ++ answer ∷ filter (λ other. not (comes_before answer.number other)) answers

use Rattle.std.proofs.Common.{◌≡◌, ◌+◌, ◌<◌, ◌==◌, ◌||◌, ℕ, false, get_or, length, take}
use Rattle.std.specs.List.{list_any}
use Rattle.face_text.specs.declared.op_answer.OpAnswer.{OpAnswer}
use Rattle.told_operations.proofs.founding.note_answers.Given as goal

-- what the answers before a place answer is marked, and no other mark is touched
abbrev pub invariant-loop-place : goal.invariant-loop-place
invariant-loop-place l =
    record {
      size : length l.answered ≡ length l.initial.answered;
      marks :
          (k : ℕ) → k < length l.initial.answered →
          get_or l.answered k false ≡ (get_or l.initial.answered k false || list_any (λ (a : OpAnswer). a.number == k + 1) (take l.place l.answers));
    }

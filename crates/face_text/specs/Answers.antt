-- The lines that tell what is answered in a tick.
use Rattle.std.specs.Prelude.{◌-◌, ◌==◌, ℕ, Bool, List, [], ◌++◌, slice_index, codes, decimal, if◌then◌else◌}
use Rattle.std.specs.List.{flat_map, range_with_len}
use Rattle.face_text.specs.declared.answers.Answers.{Answers}
use Rattle.face_text.specs.declared.op_answer.OpAnswer.{OpAnswer}
use Rattle.face_text.specs.declared.reply.Reply.{Reply}
use Rattle.face_text.specs.declared.reply.Reply.TheVariants.{Done, Denied, Waiting, Already, Store}

abbrev pub reply_words : Reply → List ℕ
reply_words Done = codes " done\n"
reply_words (Denied needs has) = codes " denied needs " ++ decimal needs ++ codes " has " ++ decimal has
    ++ codes "\n"
reply_words Waiting = codes " waiting\n"
reply_words Already = codes " already\n"
reply_words Store = codes " store\n"

-- the line of an answer
abbrev pub answer_line : OpAnswer → List ℕ
answer_line answer = codes "op " ++ decimal answer.number ++ reply_words answer.reply

-- the line of a panel that operations found busy
abbrev pub counted_line : ℕ → ℕ → List ℕ
counted_line panel count = decimal panel ++ codes " busy " ++ decimal count ++ codes "\n"

-- the line of a panel that so many operations found busy; none where there was no such operation
abbrev pub busy_line : ℕ → ℕ → List ℕ
busy_line panel count =
    if count == 0 then [] else (decimal panel ++ codes " busy " ++ decimal count ++ codes "\n")

unfoldable pub busy_text : List ℕ → List ℕ
busy_text busy = flat_map (λ panel. busy_line panel (slice_index busy (panel - 1))) (range_with_len 1 8)

abbrev pub failed_text : Bool → List ℕ
failed_text failed = if failed then codes "store failed\n" else []

-- the answers by number, the panels that were busy, and whether Keep's turn failed
abbrev pub answers_text : Answers → List ℕ
answers_text answers = flat_map answer_line answers.ops ++ busy_text answers.busy
    ++ failed_text answers.failed

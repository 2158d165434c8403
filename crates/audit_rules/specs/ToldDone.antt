-- The operations that were done, as a text tells them: those that it answers `done`, in the ticks of its answers.
-- And what was retained, as the faces at opening show it.
use Rattle.std.specs.Prelude.{ℕ, ◌+◌, ◌==◌, Bool, true, false, List, [], ◌∷◌, map, Option, Some, None, if◌then◌else◌}
use Rattle.std.specs.List.{find, fold, range_with_len}
use Rattle.site_types.specs.declared.retained.Retained.{Retained}
use Rattle.site_types.specs.Bits.{mask_of}
use Rattle.site_types.specs.Done.{Done}
use Rattle.site_types.specs.Limits.{most_panels}
use Rattle.face_text.specs.declared.face.Face.{Face}
use Rattle.face_text.specs.declared.op_answer.OpAnswer.{OpAnswer}
use Rattle.face_text.specs.declared.reply.Reply.{Reply}
use Rattle.face_text.specs.declared.reply.Reply.TheVariants.{Done as DoneReply, Denied, Waiting, Already, Store}
use Rattle.face_text.specs.declared.step.Step.{Step}
use Rattle.face_reading.specs.Reading.{face_at}
use Rattle.panel_rules.specs.Operations.{Request, done_in}

-- the operation of a number
abbrev pub request_numbered : ℕ → List Request → Option Request
request_numbered number asked = find (λ (r : Request). r.number == number) asked

abbrev pub tells_done : Reply → Bool
tells_done DoneReply = true
tells_done (Denied needs has) = false
tells_done Waiting = false
tells_done Already = false
tells_done Store = false

-- a number that no operation has does nothing
abbrev pub and_done_of : ℕ → Option Request → List Done → List Done
and_done_of tick None before = before
and_done_of tick (Some request) before = done_in tick request ∷ before

abbrev pub and_answer : List Request → ℕ → List Done → OpAnswer → List Done
and_answer asked tick before answer =
    if tells_done answer.reply then and_done_of tick (request_numbered answer.number asked) before else before

abbrev pub and_answers_of : List Request → List Done → Step → List Done
and_answers_of asked before step = fold (and_answer asked step.tick.0) before step.answers.ops

-- all that was done by these steps, the newest first
abbrev pub done_by_steps : List Request → List Step → List Done
done_by_steps asked steps = fold (and_answers_of asked) [] steps

-- what was retained, by the faces at opening
abbrev pub retained_by : List Face → Retained
retained_by faces =
    record {
      points = map (λ panel. (face_at faces panel).points_off) (range_with_len 1 most_panels);
      zones = map (λ panel. (face_at faces panel).zones_off) (range_with_len 1 most_panels);
      outputs = map (λ panel. (face_at faces panel).outputs_off) (range_with_len 1 most_panels);
      delays_off = mask_of 8 (λ k. (face_at faces (k + 1)).delays_off);
      counters = map (λ panel. (face_at faces panel).counter) (range_with_len 1 most_panels);
      tests = map (λ panel. (face_at faces panel).test) (range_with_len 1 most_panels);
    }

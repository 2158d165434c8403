-- The timeline of a run: the faces at opening, and a step for each tick in which a face changes or an answer
-- is given.
use Rattle.std.specs.Prelude.{ℕ, ◌-◌, ◌==◌, ◌&&◌, ◌||◌, not, Bool, true, false, List, [], ◌∷◌, length, map, filter}
use Rattle.std.specs.Prelude.{Option, Some, None, option_map, if◌then◌else◌}
use Rattle.std.specs.List.{filter_map, find, list_any, range_with_len}
use Rattle.site_types.specs.declared.retained.Retained.{Retained}
use Rattle.site_types.specs.declared.site.Site.{Site}
use Rattle.site_types.specs.Limits.{most_panels}
use Rattle.face_text.specs.declared.answers.Answers.{Answers}
use Rattle.face_text.specs.declared.face.Face.{Face}
use Rattle.face_text.specs.declared.op_answer.OpAnswer.{OpAnswer}
use Rattle.face_text.specs.declared.reply.Reply.{Reply}
use Rattle.face_text.specs.declared.reply.Reply.TheVariants.{Done, Denied, Waiting, Already, Store}
use Rattle.face_text.specs.declared.step.Step.{Step}
use Rattle.face_text.specs.declared.timeline.Timeline.{Timeline}
use Rattle.face_text.specs.Faces.{same_faces}
use Rattle.face_text.specs.Timelines.{text_of}
use Rattle.panel_rules.specs.Moments.{Moment, Began, Happened, Turned, Kept, tick_of, up_to}
use Rattle.panel_rules.specs.Operations.{Request, Answered, Reply as ReplyOf, Busy, Denied as DeniedOf}
use Rattle.panel_rules.specs.Operations.{Waiting as WaitingOf, Already as AlreadyOf, Store as StoreOf}
use Rattle.panel_rules.specs.Operations.{WasDone, operations, requests}
use Rattle.panel_rules.specs.Batches.{kept_after}
use Rattle.panel_rules.specs.Faces.{face_with}

-- the ticks in which Keep's turn failed, the latest first
abbrev pub failed_ticks : List Moment → List ℕ
failed_ticks [] = []
failed_ticks (Began ∷ before) = failed_ticks before
failed_ticks (Happened event ∷ before) = failed_ticks before
failed_ticks (Turned panel task ∷ before) = failed_ticks before
failed_ticks (Kept failed ∷ before) =
    if failed then tick_of before ∷ failed_ticks before else failed_ticks before

-- an answer as it is told by its number; one that found its panel busy is told by the panel alone
abbrev pub told_reply : ReplyOf → Option Reply
told_reply Busy = None
told_reply (DeniedOf needs has) = Some (Denied needs has)
told_reply WaitingOf = Some Waiting
told_reply AlreadyOf = Some Already
told_reply StoreOf = Some Store
told_reply WasDone = Some Done

abbrev pub told_answer : Answered → Option OpAnswer
told_answer answered =
    option_map (λ (reply : Reply). record { number = answered.request.number; reply = reply })
    (told_reply answered.reply)

abbrev pub is_busy : ReplyOf → Bool
is_busy Busy = true
is_busy (DeniedOf needs has) = false
is_busy WaitingOf = false
is_busy AlreadyOf = false
is_busy StoreOf = false
is_busy WasDone = false

-- how many of some operations found a panel busy
abbrev pub busy_count : ℕ → List Answered → ℕ
busy_count panel answers =
    length (filter (λ (a : Answered). (a.request.panel == panel) && is_busy a.reply) answers)

-- answers by number as they are told, and whether Keep's turn failed
abbrev pub told : List Answered → Bool → Answers
told answers failed =
    record {
      ops = filter_map told_answer answers;
      busy =
          map (λ panel. busy_count panel answers) (range_with_len 1 most_panels);
      failed = failed;
    }

module _ (site : Site) (kept : Retained) where
  -- the face of a panel after what has befallen, with the operations done and all that is kept by then
  abbrev pub face_of : ℕ → List Moment → Face
  face_of panel moments =
      face_with site kept (operations site kept moments).done (kept_after site kept moments) panel moments

  -- the faces of all panels
  abbrev pub faces_of : List Moment → List Face
  faces_of moments = map (λ panel. face_of panel moments) (range_with_len 1 site.panels)

  -- the answer of an operation, if it is given in a tick
  abbrev pub answer_in : ℕ → List Answered → Request → Option Answered
  answer_in tick answers request =
      find (λ (a : Answered). (a.request.number == request.number) && (a.tick == tick)) answers

  -- the answers that are given in the tick that began last, by number
  abbrev pub answers_now : List Moment → List Answered
  answers_now moments =
      filter_map (answer_in (tick_of moments) (operations site kept moments).answers) (requests site moments)

  -- Keep's turn failed in the tick that began last
  abbrev pub failed_now : List Moment → Bool
  failed_now moments = list_any (λ tick. tick == tick_of moments) (failed_ticks moments)

  -- a step, with what has befallen up to the end of its tick
  abbrev pub step_of : List Moment → Step
  step_of moments = record {
    tick = record { 0 = tick_of moments };
    faces = faces_of moments;
    answers =
        told (answers_now moments) (failed_now moments);
  }

  -- in the tick that began last an answer was given, or Keep's turn failed
  abbrev pub has_answer : List Moment → Bool
  has_answer moments = not (length (answers_now moments) == 0) || failed_now moments

  -- a tick is told: a face is not as it was after the tick before, or in the tick an answer was given, or Keep's turn
  -- failed
  abbrev pub is_told : List Moment → ℕ → Bool
  is_told moments tick =
      not (same_faces (faces_of (up_to tick moments)) (faces_of (up_to (tick - 1) moments)))
      || has_answer (up_to tick moments)

  -- the ticks that are told
  abbrev pub told_ticks : List Moment → List ℕ
  told_ticks moments = filter (is_told moments) (range_with_len 1 (tick_of moments))

  -- the timeline of a run whose last tick has ended
  abbrev pub timeline_of : List Moment → Timeline
  timeline_of moments =
      record {
        opened = faces_of [];
        steps = map (λ tick. step_of (up_to tick moments)) (told_ticks moments);
        last = record { 0 = tick_of moments };
      }

  -- the text of the run
  abbrev pub text_of_run : List Moment → List ℕ
  text_of_run moments = text_of site (timeline_of moments)

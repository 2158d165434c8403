-- The last silence or resound of a panel, by the answers that told it done.
use Rattle.std.proofs.Common.{◌≡◌, ℕ, ◌<◌, ◌==◌, ◌&&◌, Bool, true, false, List, [], ◌∷◌, Option, Some, None, if◌then◌else◌}
use Rattle.std.proofs.Common.{refl}
use Rattle.std.specs.Prelude.{nat_lt}
use Rattle.std.specs.List.{AllByRecursion, fold}
use Rattle.tick_units.specs.declared.task.Task.TheVariants.{Desk}
use Rattle.site_types.specs.declared.operation.Operation.{Operation}
use Rattle.site_types.specs.declared.operation.Operation.TheVariants.{Silence, Resound}
use Rattle.site_types.specs.declared.retained.Retained.{Retained}
use Rattle.site_types.specs.declared.site.Site.{Site}
use Rattle.site_types.specs.Done.{Done, silence_before, silence_then}
use Rattle.face_text.specs.declared.op_answer.OpAnswer.{OpAnswer}
use Rattle.face_text.specs.declared.step.Step.{Step}
use Rattle.panel_rules.specs.Moments.{Moment, Began, Happened, Turned, Kept, tick_of}
use Rattle.panel_rules.specs.Operations.{Answered, Operations, Reply, Request, Busy, Denied, Waiting, Already, Store, WasDone, after_desk, after_keep}
use Rattle.panel_rules.specs.Operations.{after_reply, after_request, answer_all, desk_reply, do_all, done_in, operations, requests}
use Rattle.panel_rules.specs.Operations.{requests_in}
use Rattle.audit_rules.specs.ToldDone.{and_answer, and_answers_of, and_done_of, request_numbered, tells_done}

abbrev pub is_word : Operation → Bool
is_word Silence = true
is_word Resound = true
is_word _ = false

abbrev pub is_done : Reply → Bool
is_done Busy = false
is_done (Denied needs has) = false
is_done Waiting = false
is_done Already = false
is_done Store = false
is_done WasDone = true

-- the answer tells a silence or a resound of the panel as done
abbrev pub says : ℕ → Answered → Bool
says panel a = is_done a.reply && ((a.request.panel == panel) && is_word a.request.operation)

-- the newest of these that was given before a tick decides
abbrev pub silence_told : ℕ → ℕ → List Answered → Option ℕ
silence_told panel x [] = None
silence_told panel x (a ∷ answers) =
    if says panel a && nat_lt a.tick x then silence_then a.request.operation a.tick None else silence_told panel x answers

push : (own late : Bool) (op : Operation) (tick : ℕ) (one other : Option ℕ) → one ≡ other
    → (if own && late then silence_then op tick one else one) ≡ (if (own && is_word op) && late then silence_then op tick None else other)
push true true Silence tick one other e = refl
push true true Resound tick one other e = refl
push true true op tick one other e = e
push true false Silence tick one other e = e
push true false op tick one other e = e
push false late op tick one other e = e

module _ (panel : ℕ) where
  abbrev Tell : List Done → List Answered → Type 0
  Tell done answers = (x : ℕ) → silence_before panel x done ≡ silence_told panel x answers

  done_tells : (r : Request) (tick : ℕ) (done : List Done) (answers : List Answered) → Tell done answers
      → Tell (done_in tick r ∷ done) (record { request = r; tick = tick; reply = WasDone } ∷ answers)
  done_tells r tick done answers h x = push (r.panel == panel) (nat_lt tick x) r.operation tick (silence_before panel x done)
      (silence_told panel x answers) (h x)

  reply_tells : (r : Request) (so_far : Operations) (reply : Option Reply) → Tell so_far.done so_far.answers
      → Tell (after_reply r so_far reply).done (after_reply r so_far reply).answers
  reply_tells r so_far None h = h
  reply_tells r so_far (Some Busy) h = h
  reply_tells r so_far (Some (Denied needs has)) h = h
  reply_tells r so_far (Some Waiting) h = h
  reply_tells r so_far (Some Already) h = h
  reply_tells r so_far (Some Store) h = h
  reply_tells r so_far (Some WasDone) h = done_tells r r.tick so_far.done so_far.answers h

  desk_tells : (site : Site) (kept : Retained) (taken : List Request) (so_far : Operations) → Tell so_far.done so_far.answers
      → Tell (after_desk site kept taken so_far).done (after_desk site kept taken so_far).answers
  desk_tells site kept [] so_far h = h
  desk_tells site kept (r ∷ taken) so_far h =
      desk_tells site kept taken (after_request site kept so_far r) (reply_tells r so_far (desk_reply site kept r so_far) h)

  stored_tells : (tick : ℕ) (waiting : List Request) (done : List Done) (answers : List Answered) → Tell done answers
      → Tell (do_all tick waiting done) (answer_all tick false waiting answers)
  stored_tells tick [] done answers h = h
  stored_tells tick (r ∷ waiting) done answers h =
      stored_tells tick waiting (done_in tick r ∷ done) (record { request = r; tick = tick; reply = WasDone } ∷ answers)
      (done_tells r tick done answers h)

  not_stored_tells : (tick : ℕ) (waiting : List Request) (done : List Done) (answers : List Answered) → Tell done answers
      → Tell done (answer_all tick true waiting answers)
  not_stored_tells tick [] done answers h = h
  not_stored_tells tick (r ∷ waiting) done answers h =
      not_stored_tells tick waiting done (record { request = r; tick = tick; reply = Store } ∷ answers) h

  keep_tells : (tick : ℕ) (failed : Bool) (so_far : Operations) → Tell so_far.done so_far.answers
      → Tell (after_keep tick failed so_far).done (after_keep tick failed so_far).answers
  keep_tells tick true so_far h = not_stored_tells tick so_far.waiting so_far.done so_far.answers h
  keep_tells tick false so_far h = stored_tells tick so_far.waiting so_far.done so_far.answers h

  -- of a run
  pub run_tells : (site : Site) (kept : Retained) (m : List Moment) → Tell (operations site kept m).done (operations site kept m).answers
  run_tells site kept [] x = refl
  run_tells site kept (Began ∷ before) x = run_tells site kept before x
  run_tells site kept (Happened event ∷ before) x = run_tells site kept before x
  run_tells site kept (Turned turned Desk ∷ before) x =
      desk_tells site kept (requests_in turned (tick_of before) (requests site before)) (operations site kept before) (run_tells site kept before) x
  run_tells site kept (Turned turned task ∷ before) x = run_tells site kept before x
  run_tells site kept (Kept failed ∷ before) x = keep_tells (tick_of before) failed (operations site kept before) (run_tells site kept before) x

-- ---- of a text, whose answers by number are told of the operations that were asked for

abbrev pub and_told_of : ℕ → Option Request → List Answered → List Answered
and_told_of tick None before = before
and_told_of tick (Some request) before = record { request = request; tick = tick; reply = WasDone } ∷ before

abbrev pub and_told : List Request → ℕ → List Answered → OpAnswer → List Answered
and_told asked tick before op = if tells_done op.reply then and_told_of tick (request_numbered op.number asked) before else before

abbrev pub and_told_in : List Request → List Answered → Step → List Answered
and_told_in asked before step = fold (and_told asked step.tick.0) before step.answers.ops

abbrev pub told_by_steps : List Request → List Step → List Answered
told_by_steps asked steps = fold (and_told_in asked) [] steps

module _ (panel : ℕ) (asked : List Request) where
  op_tells : (tick : ℕ) (op : OpAnswer) (done : List Done) (answers : List Answered) → Tell panel done answers
      → Tell panel (and_answer asked tick done op) (and_told asked tick answers op)
  op_tells tick op done answers h = by (tells_done op.reply) (request_numbered op.number asked)
    where
      by : (b : Bool) (o : Option Request)
          → Tell panel (if b then and_done_of tick o done else done) (if b then and_told_of tick o answers else answers)
      by false o = h
      by true None = h
      by true (Some r) = done_tells panel r tick done answers h

  ops_tell : (tick : ℕ) (ops : List OpAnswer) (done : List Done) (answers : List Answered) → Tell panel done answers
      → Tell panel (fold (and_answer asked tick) done ops) (fold (and_told asked tick) answers ops)
  ops_tell tick [] done answers h = h
  ops_tell tick (op ∷ ops) done answers h =
      ops_tell tick ops (and_answer asked tick done op) (and_told asked tick answers op) (op_tells tick op done answers h)

  steps_tell : (steps : List Step) (done : List Done) (answers : List Answered) → Tell panel done answers
      → Tell panel (fold (and_answers_of asked) done steps) (fold (and_told_in asked) answers steps)
  steps_tell [] done answers h = h
  steps_tell (step ∷ steps) done answers h =
      steps_tell steps (and_answers_of asked done step) (and_told_in asked answers step) (ops_tell step.tick.0 step.answers.ops done answers h)

  pub text_tells : (steps : List Step) → Tell panel (fold (and_answers_of asked) [] steps) (told_by_steps asked steps)
  text_tells steps = steps_tell steps [] [] (λ x. refl)

-- ---- by number

-- of those that tell it, each newer one has a greater number
abbrev pub AreRanked : ℕ → List Answered → Type 0
AreRanked panel [] = Unit {0}
AreRanked panel (a ∷ answers) =
    (says panel a ≡ true → AllByRecursion (λ (b : Answered). says panel b ≡ true → b.request.number < a.request.number) answers)
    × AreRanked panel answers

use Rattle.std.proofs.Common.{◌∙◌, [], ◌∷◌, ap, map, option_map}
use Rattle.std.proofs.lemmas.List.{map-append}
use Rattle.plain_operations.specs.Desks.{all_answered, answered_of}
use Rattle.plain_operations.specs.Tellings.{answer_given}
use Rattle.plain_operations.proofs.Tellings.{now_more, with_none, with_some}
use Rattle.plain_operations.proofs.answers_told.answers_now.Goals as goal
use Rattle.plain_operations.proofs.answers_told.answers_now.Goals.{in-None, in-Some+in_ok-push-in-Some}

pub loop-request-preserved : goal.loop-request-preserved
loop-request-preserved c =
    let more =
    now_more (answer_given c.args.tick.0 (all_answered c.args.answers.now)) c.args.requests.now c.loop-request.request-index _
    c.loop-request-test.true c.loop-request.now.items (option_map answered_of c.last_answer.result) c.loop-request.invariant c.last_answer.ensures
    in
    elim c.match-last_answer.branch [
      | in-None w ↦ with_none (map answered_of c.loop-request.now.items) _ _ (option_map answered_of c.last_answer.result) more
          (ap (option_map answered_of) w.in-None.is) (ap (λ v. map answered_of v.items) w.now-is)
      | in-Some+in_ok-push-in-Some w ↦
          with_some (map answered_of c.loop-request.now.items) _ _ (option_map answered_of c.last_answer.result) more (answered_of w.in-Some.answered)
          (ap (option_map answered_of) w.in-Some.is)
          (ap (λ v. map answered_of v.items) w.now-is
          ∙ ap (map answered_of) w.in_ok-push-in-Some.ensures.items
          ∙ map-append answered_of c.loop-request.now.items (w.in-Some.answered ∷ []))
    ]

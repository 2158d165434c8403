use Rattle.std.proofs.Common.{◌≡◌, option_map, take}
use Rattle.plain_operations.specs.Desks.{all_answered, answered_of, request_of}
use Rattle.plain_operations.specs.Tellings.{answer_given}
use Rattle.plain_operations.proofs.answers_told.last_answer.Given as goal

abbrev pub invariant-loop-answered : goal.invariant-loop-answered
invariant-loop-answered l =
    option_map answered_of l.found ≡ answer_given l.tick.0 (all_answered (take l.answered-index l.answers)) (request_of l.request)

use Rattle.std.proofs.Common.{◌≡◌, map, take}
use Rattle.std.specs.List.{filter_map}
use Rattle.plain_operations.specs.Desks.{all_answered, all_requests, answered_of}
use Rattle.plain_operations.specs.Tellings.{answer_given}
use Rattle.plain_operations.proofs.answers_told.answers_now.Given as goal

abbrev pub invariant-loop-request : goal.invariant-loop-request
invariant-loop-request l =
    map answered_of l.now.items ≡ filter_map (answer_given l.tick.0 (all_answered l.answers)) (all_requests (take l.request-index l.requests))

use Rattle.std.proofs.Common.{◌≡◌, take}
use Rattle.panel_rules.specs.Operations.{answer_all}
use Rattle.plain_operations.specs.Desks.{all_answered, all_requests}
use Rattle.plain_operations.proofs.outcomes.answer_all.Given as goal

abbrev pub invariant-loop-request : goal.invariant-loop-request
invariant-loop-request l =
    all_answered l.answers.items ≡ answer_all l.tick.0 l.failed (all_requests (take l.request-index l.waiting)) (all_answered l.initial.answers.items)

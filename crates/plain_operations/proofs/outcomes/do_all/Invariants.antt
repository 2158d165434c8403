use Rattle.std.proofs.Common.{◌≡◌, take}
use Rattle.panel_rules.specs.Operations.{do_all}
use Rattle.plain_operations.specs.Desks.{all_requests}
use Rattle.plain_history.specs.Histories.{all_done}
use Rattle.plain_operations.proofs.outcomes.do_all.Given as goal

abbrev pub invariant-loop-request : goal.invariant-loop-request
invariant-loop-request l = all_done l.done.items ≡ do_all l.tick.0 (all_requests (take l.request-index l.waiting)) (all_done l.initial.done.items)

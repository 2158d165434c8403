use Rattle.std.proofs.Common.{◌≡◌, ◌++◌, take}
use Rattle.panel_rules.specs.Batches.{changes_of}
use Rattle.operation_desk.specs.Requests.{requests_from}
use Rattle.keep_batch.proofs.make.put_changes.Given as goal

-- the changes of the operations before
abbrev pub invariant-loop-request : goal.invariant-loop-request
invariant-loop-request l =
    l.batch.items ≡ l.fn.batch.items ++ changes_of l.site (requests_from (take l.request-index l.waiting))

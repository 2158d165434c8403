use Rattle.std.proofs.Common.{refl, subst}
use Rattle.due_outputs.specs.Runs.{AreNoRuns}
use Rattle.due_outputs.proofs.TicksTaken.{stands_first}
use Rattle.due_outputs.proofs.due_outputs.DueOutputs.new.Goals as goal

pub returns : goal.returns
returns c kept done =
    let site = c.args.site.now in
    stands_first site kept done _ c.new.result c.requires.table.valid (c.new.ensures site c.requires) refl refl
    (subst (λ n. AreNoRuns n c.in_ok-no_runs.field-0.items) c.len.ensures c.in_ok-no_runs.ensures)

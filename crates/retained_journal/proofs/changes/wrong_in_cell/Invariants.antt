use Rattle.std.proofs.Common.{◌≡◌, ◌+◌, ◌*◌}
use Rattle.std.specs.Prelude.{None}
use Rattle.retained_journal.specs.Fields.{first_in}
use Rattle.retained_journal.specs.Cells.{wrong_in_change}
use Rattle.retained_journal.proofs.changes.wrong_in_cell.Given as goal

abbrev pub invariant-loop-which : goal.invariant-loop-which
invariant-loop-which l = first_in (λ k. wrong_in_change l.wide (10 + 8 * k) l.cell) l.which ≡ None

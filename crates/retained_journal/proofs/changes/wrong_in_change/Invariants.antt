use Rattle.std.proofs.Common.{◌≡◌}
use Rattle.std.specs.Prelude.{None}
use Rattle.retained_journal.specs.Fields.{first_in}
use Rattle.retained_journal.specs.Cells.{wrong_byte}
use Rattle.retained_journal.proofs.changes.wrong_in_change.Given as goal

abbrev pub invariant-loop-place : goal.invariant-loop-place
invariant-loop-place l = first_in (wrong_byte l.wide l.at l.bytes) l.place ≡ None

use Rattle.std.proofs.Common.{◌≡◌}
use Rattle.site_types.specs.Changes.{changed_by}
use Rattle.retained_journal.specs.Cells.{changes_at}
use Rattle.retained_journal.proofs.changes.apply_changes.Given as goal

abbrev pub invariant-loop-which : goal.invariant-loop-which
invariant-loop-which l = l.kept ≡ changed_by (changes_at l.which 10 l.cell) l.initial.kept

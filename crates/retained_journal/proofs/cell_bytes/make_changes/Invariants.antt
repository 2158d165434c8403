use Rattle.std.proofs.Common.{◌≡◌, take}
use Rattle.site_types.specs.Changes.{changed_by}
use Rattle.retained_journal.proofs.cell_bytes.make_changes.Given as goal

abbrev pub invariant-loop-change : goal.invariant-loop-change
invariant-loop-change l = l.kept ≡ changed_by (take l.change-index l.batch) l.initial.kept

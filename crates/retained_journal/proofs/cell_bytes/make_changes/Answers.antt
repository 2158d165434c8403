use Rattle.std.proofs.Common.{◌∙◌}
use Rattle.retained_journal.proofs.WrittenCells.{change_made, make_at}
use Rattle.retained_journal.proofs.cell_bytes.make_changes.Goals as goal

pub apply-requires : goal.apply-requires
apply-requires c = make_at c.args.batch.now c.loop-change.change-index _ c.requires c.loop-change-test.true

pub loop-change-preserved : goal.loop-change-preserved
loop-change-preserved c =
    c.apply.ensures ∙ change_made c.args.batch.now c.loop-change.change-index _ c.args.kept.now c.loop-change.kept c.loop-change-test.true
    c.loop-change.invariant

use Rattle.std.proofs.Common.{◌+◌, ◌*◌, ◌∙◌, sym, ap, arith, subst}
use Rattle.site_types.specs.Changes.{CanApply, changed, changed_by}
use Rattle.retained_journal.specs.Cells.{changes_at}
use Rattle.retained_journal.proofs.Forms.{can_apply_at, cell_in_form, made_more, made_none}
use Rattle.retained_journal.proofs.changes.apply_changes.Goals as goal

pub loop-which-init : goal.loop-which-init
loop-which-init c = made_none 10 c.args.cell.now c.args.kept.now

pub change_at-requires : goal.change_at-requires
change_at-requires c = let form = cell_in_form c.args.wide 0 c.args.cell.now c.requires.form in
    omega (arith, form.few, c.requires.size, c.loop-which-test.true)

pub apply-requires : goal.apply-requires
apply-requires c =
    let form = cell_in_form c.args.wide 0 c.args.cell.now c.requires.form in
    subst CanApply (sym c.change_at.ensures)
    (can_apply_at c.args.wide (10 + 8 * c.loop-which.which) c.args.cell.now (form.each c.loop-which.which c.loop-which-test.true))

pub loop-which-preserved : goal.loop-which-preserved
loop-which-preserved c =
    c.apply.ensures ∙ ap (λ change. changed change c.loop-which.kept) c.change_at.ensures
    ∙ made_more c.loop-which.which 10 c.args.cell.now c.args.kept.now c.loop-which.kept c.loop-which.invariant

pub returns : goal.returns
returns c = c.loop-which.invariant ∙ ap (λ count. changed_by (changes_at count 10 c.args.cell.now) c.args.kept.now) (omega arith)

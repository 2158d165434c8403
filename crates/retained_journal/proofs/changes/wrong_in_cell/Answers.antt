use Rattle.std.proofs.Common.{◌+◌, ◌*◌, ◌∙◌, sym, arith, slice_index}
use Rattle.retained_journal.specs.Cells.{wrong_in_change}
use Rattle.retained_journal.proofs.Finding.{found-none, found_option, is_none, none_to_end, nothing_more}
use Rattle.retained_journal.proofs.Forms.{wrong_change, wrong_count}
use Rattle.retained_journal.proofs.changes.wrong_in_cell.Goals as goal

pub returns-then-not-is_within-clause-value : goal.returns-then-not-is_within-clause-value
returns-then-not-is_within-clause-value c = sym (wrong_count c.args.wide 0 c.args.cell.now (sym c.is_within.ensures ∙ c.if-not-is_within.true))

pub loop-which-init : goal.loop-which-init
loop-which-init c = found-none (λ k. wrong_in_change c.args.wide (10 + 8 * k) c.args.cell.now)

pub loop-which-preserved : goal.loop-which-preserved
loop-which-preserved c =
    nothing_more (λ k. wrong_in_change c.args.wide (10 + 8 * k) c.args.cell.now) c.loop-which.which c.loop-which.invariant
    (sym c.wrong_in_change-wrong.ensures.value ∙ is_none _ (sym c.is_some.ensures ∙ c.if-is_some.false))

pub returns-then-is_some-clause-value : goal.returns-then-is_some-clause-value
returns-then-is_some-clause-value c =
    found_option (λ k. wrong_in_change c.args.wide (10 + 8 * k) c.args.cell.now) c.loop-which.which (slice_index c.args.cell.now 9) _
    c.loop-which.invariant
    c.wrong_in_change-wrong.ensures.value (sym c.is_some.ensures ∙ c.if-is_some.true) c.loop-which-test.true
    ∙ sym (wrong_change c.args.wide 0 c.args.cell.now (sym c.is_within.ensures ∙ c.if-not-is_within.false))

pub returns-clause-value : goal.returns-clause-value
returns-clause-value c =
    sym (none_to_end (λ k. wrong_in_change c.args.wide (10 + 8 * k) c.args.cell.now) c.loop-which.which (slice_index c.args.cell.now 9)
    c.loop-which.invariant (omega arith))
    ∙ sym (wrong_change c.args.wide 0 c.args.cell.now (sym c.is_within.ensures ∙ c.if-not-is_within.false))

use Rattle.std.proofs.Common.{ap, sym, subst, ◌∙◌}
use Rattle.retained_journal.specs.Batches.{CanKeep}
use Rattle.retained_journal.specs.Cells.{change_at, wrong_in_change}
use Rattle.retained_journal.proofs.WrittenCells.{form_clear, form_count, form_delays, form_output, form_point}
use Rattle.retained_journal.proofs.WrittenCells.{form_test, form_zone, reads_clear, reads_count, reads_delays}
use Rattle.retained_journal.proofs.WrittenCells.{reads_output, reads_point, reads_test, reads_zone}
use Rattle.retained_journal.proofs.cell_bytes.change_bytes.Goals as goal

pub returns-in-Point-clause-reads : goal.returns-in-Point-clause-reads
returns-in-Point-clause-reads c =
    ap (change_at 0) c.setting.ensures ∙ reads_point c.in-Point.panel c.in-Point.line c.in-Point.address c.in-Point.off ∙ sym c.in-Point.is

pub returns-in-Point-clause-form : goal.returns-in-Point-clause-form
returns-in-Point-clause-form c wide can =
    ap (wrong_in_change wide 0) c.setting.ensures ∙ form_point wide c.in-Point.panel c.in-Point.line c.in-Point.address c.in-Point.off
    (subst (CanKeep wide) c.in-Point.is can)

pub returns-in-Zone-clause-reads : goal.returns-in-Zone-clause-reads
returns-in-Zone-clause-reads c =
    ap (change_at 0) c.setting-in-Zone.ensures ∙ reads_zone c.in-Zone.panel c.in-Zone.number c.in-Zone.off ∙ sym c.in-Zone.is

pub returns-in-Zone-clause-form : goal.returns-in-Zone-clause-form
returns-in-Zone-clause-form c wide can =
    ap (wrong_in_change wide 0) c.setting-in-Zone.ensures ∙ form_zone wide c.in-Zone.panel c.in-Zone.number c.in-Zone.off
    (subst (CanKeep wide) c.in-Zone.is can)

pub returns-in-Output-clause-reads : goal.returns-in-Output-clause-reads
returns-in-Output-clause-reads c =
    ap (change_at 0) c.setting-in-Output.ensures ∙ reads_output c.in-Output.panel c.in-Output.number c.in-Output.off ∙ sym c.in-Output.is

pub returns-in-Output-clause-form : goal.returns-in-Output-clause-form
returns-in-Output-clause-form c wide can =
    ap (wrong_in_change wide 0) c.setting-in-Output.ensures ∙ form_output wide c.in-Output.panel c.in-Output.number c.in-Output.off
    (subst (CanKeep wide) c.in-Output.is can)

pub returns-in-Delays-clause-reads : goal.returns-in-Delays-clause-reads
returns-in-Delays-clause-reads c = ap (change_at 0) c.setting-in-Delays.ensures ∙ reads_delays c.in-Delays.panel c.in-Delays.off ∙ sym c.in-Delays.is

pub returns-in-Delays-clause-form : goal.returns-in-Delays-clause-form
returns-in-Delays-clause-form c wide can =
    ap (wrong_in_change wide 0) c.setting-in-Delays.ensures ∙ form_delays wide c.in-Delays.panel c.in-Delays.off
    (subst (CanKeep wide) c.in-Delays.is can)

pub returns-in-Clear-clause-reads : goal.returns-in-Clear-clause-reads
returns-in-Clear-clause-reads c = ap (change_at 0) c.setting-in-Clear.ensures ∙ reads_clear c.in-Clear.panel ∙ sym c.in-Clear.is

pub returns-in-Clear-clause-form : goal.returns-in-Clear-clause-form
returns-in-Clear-clause-form c wide can =
    ap (wrong_in_change wide 0) c.setting-in-Clear.ensures ∙ form_clear wide c.in-Clear.panel (subst (CanKeep wide) c.in-Clear.is can)

pub returns-in-Test-clause-reads : goal.returns-in-Test-clause-reads
returns-in-Test-clause-reads c =
    ap (change_at 0) c.setting-in-Test.ensures ∙ reads_test c.in-Test.panel c.in-Test.number c.in-Test.on ∙ sym c.in-Test.is

pub returns-in-Test-clause-form : goal.returns-in-Test-clause-form
returns-in-Test-clause-form c wide can =
    ap (wrong_in_change wide 0) c.setting-in-Test.ensures ∙ form_test wide c.in-Test.panel c.in-Test.number c.in-Test.on
    (subst (CanKeep wide) c.in-Test.is can)

pub returns-in-Count-clause-reads : goal.returns-in-Count-clause-reads
returns-in-Count-clause-reads c =
    let front = c.counting.ensures.front in
    reads_count c.counting.result c.in-Count.panel c.in-Count.entries front.0 front.1 c.counting.ensures.entries ∙ sym c.in-Count.is

pub returns-in-Count-clause-form : goal.returns-in-Count-clause-form
returns-in-Count-clause-form c wide can =
    let front = c.counting.ensures.front in
    form_count wide c.counting.result c.in-Count.panel c.in-Count.entries front.0 front.1 front.2 front.3 (subst (CanKeep wide) c.in-Count.is can)

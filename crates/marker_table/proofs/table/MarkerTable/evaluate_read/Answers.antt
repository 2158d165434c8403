use Rattle.std.proofs.Common.{sym, ◌∙◌}
use Rattle.marker_table.proofs.Rows.{row_met, no_row}
use Rattle.marker_table.proofs.table.MarkerTable.evaluate_read.Goals as goal

pub returns-in-Some-clause-equation : goal.returns-in-Some-clause-equation
returns-in-Some-clause-equation g c site facts values is has same =
    c.is_met.ensures ∙ row_met site c.args.self.now facts c.args.readings.now values c.args.marker c.in-Some.row.now is has same (sym c.in-Some.ensures)

pub returns-in-None-clause-equation : goal.returns-in-None-clause-equation
returns-in-None-clause-equation g c site facts values is has same =
    no_row site c.args.self.now facts values c.args.marker is (sym c.in-None.ensures)

use Rattle.std.proofs.Common.{◌≡◌, ◌∙◌, length, sym, arith}
use Rattle.std.proofs.lemmas.Bool.{eqb-true}
use Rattle.record_lines.proofs.UsualLines.{nothing, report_brought}
use Rattle.record_lines.proofs.reader.LineReader.next_report.Goals as goal

pub returns : goal.returns
returns c =
    let text = c.args.self.now.text.items in
    let none : length text ≡ 0 = eqb-true (length text) 0 (sym c.is_empty.ensures ∙ c.if-not-is_empty.false) in
    report_brought c.args.site.now c.args.self.now c.args.piece.now c.report_in_front.result (nothing text none) (omega arith)
    c.report_in_front.ensures.line c.report_in_front.ensures.known

use Rattle.std.proofs.Common.{◌≡◌, ◌∙◌, length, sym, arith}
use Rattle.std.proofs.lemmas.Bool.{eqb-true}
use Rattle.record_lines.proofs.UsualLines.{nothing, tick_brought}
use Rattle.record_lines.proofs.reader.LineReader.next_tick.Goals as goal

pub returns-clause-brings : goal.returns-clause-brings
returns-clause-brings c site =
    let text = c.args.self.now.text.items in
    let none : length text ≡ 0 = eqb-true (length text) 0 (sym c.is_empty.ensures ∙ c.if-not-is_empty.false) in
    tick_brought site c.args.self.now c.args.piece.now c.tick_in_front.result (nothing text none) (omega arith) (c.tick_in_front.ensures site)

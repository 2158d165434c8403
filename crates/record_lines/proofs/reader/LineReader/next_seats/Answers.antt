use Rattle.std.proofs.Common.{◌≡◌, ◌∙◌, length, sym, arith}
use Rattle.std.proofs.lemmas.Bool.{eqb-true}
use Rattle.record_lines.proofs.UsualLines.{nothing, seats_brought}
use Rattle.record_lines.proofs.reader.LineReader.next_seats.Goals as goal

pub returns : goal.returns
returns c =
    let text = c.args.self.now.text.items in
    let none : length text ≡ 0 = eqb-true (length text) 0 (sym c.is_empty.ensures ∙ c.if-not-is_empty.false) in
    seats_brought c.args.self.now c.order_in_front.new.seats.items c.args.piece.now c.order_in_front.result (nothing text none) (omega arith)
    c.if-self.false c.order_in_front.ensures

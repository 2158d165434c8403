use Rattle.std.proofs.Common.{arith}
use Rattle.std.proofs.lemmas.List.{take_rest}
use Rattle.record_lines.proofs.UsualLines.{order_here, order_word}
use Rattle.record_lines.proofs.usual_lines.order_in_front.Goals as goal

pub returns-in_ok-seats_in_front-in-111 : goal.returns-in_ok-seats_in_front-in-111
returns-in_ok-seats_in_front-in-111 c site =
    let piece = c.args.piece.now in
    let word = order_word piece c.in-111.len_at_least (omega arith) (omega arith) (omega arith) (omega arith) (omega arith) in
    order_here site piece _ c.seats_in_front.new.seats.items c.in_ok-seats_in_front-in-111.field-0 word (take_rest piece 5)
    c.in_ok-seats_in_front-in-111.ensures

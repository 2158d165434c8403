use Rattle.std.proofs.Common.{◌≡◌, ◌∙◌, sym, get_or, arith}
use Rattle.record_lines.proofs.FirstSeats.{numbered_here, seat_here}
use Rattle.record_lines.proofs.order_lines.first_seat.Goals as goal

pub returns-in_ok-task-in-32-clause-seat : goal.returns-in_ok-task-in-32-clause-seat
returns-in_ok-task-in-32-clause-seat c =
    let space : get_or c.args.text.now 2 0 ≡ 32 = omega arith in
    seat_here c.args.text.now c.in_ok-task-in-32.task c.in-32.len_at_least space (sym c.in_ok-task-in-32.ensures)
    (sym c.is_ascii_digit.ensures.value ∙ c.if-is_ascii_digit.true)

pub returns-in_ok-task-in-32-clause-numbered : goal.returns-in_ok-task-in-32-clause-numbered
returns-in_ok-task-in-32-clause-numbered c =
    let space : get_or c.args.text.now 2 0 ≡ 32 = omega arith in
    numbered_here c.args.text.now c.in_ok-task-in-32.task c.in-32.len_at_least space (sym c.in_ok-task-in-32.ensures)
    (sym c.is_ascii_digit.ensures.value ∙ c.if-is_ascii_digit.true)

use Rattle.std.proofs.Common.{refl, sym, ◌∙◌}
use Rattle.tick_units.proofs.Checked.{passed_one, refused_none}
use Rattle.tick_units.proofs.OrderLaws.{length-order}
use Rattle.tick_units.proofs.order.Order.of.Goals as goal
use Rattle.tick_units.proofs.order.Order.of.Goals.{then-len-seat_count-via-then-len-seat_count, then-len-seat_count-via-else-len-seat_count+then-is_err}

pub returns-then-len-seat_count-clause-order : goal.returns-then-len-seat_count-clause-order
returns-then-len-seat_count-clause-order c = (
  λ e. cc,
  λ order. absurd (elim c.then-len-seat_count.branch [
    | then-len-seat_count-via-then-len-seat_count w ↦
        w.if-len-seat_count.true (c.len.ensures.value ∙ length-order c.args.panels c.args.seats.items order ∙ sym c.seat_count.ensures)
    | then-len-seat_count-via-else-len-seat_count+then-is_err w ↦
        refused_none c.args.panels _ w.check_seats.result (sym w.is_err.ensures.value ∙ w.if-is_err.true) w.check_seats.ensures.bad
        (rw (w.deref.ensures.0) order)
  ]),
)

pub returns-clause-order : goal.returns-clause-order
returns-clause-order c =
    let full = sym c.len.ensures.value ∙ c.if-len-seat_count.false ∙ c.seat_count.ensures in
    let same = c.deref.ensures.0 in (
      λ _. rw (sym same) (passed_one c.args.panels _ c.check_seats.result (sym c.is_err.ensures.value ∙ c.if-is_err.false)
          c.check_seats.ensures.ok (rw same full)),
      λ _. refl,
    )

use Rattle.tick_units.proofs.SeatSets.{known_high, known_keep, known_low}
use Rattle.tick_units.proofs.order.is_of_site.Goals as goal

pub returns-in-Keep : goal.returns-in-Keep
returns-in-Keep c = known_keep c.args.panels c.args.seat.now c.in-Keep.is

pub returns-then-seat-ge1 : goal.returns-then-seat-ge1
returns-then-seat-ge1 c = known_high c.args.panels c.args.seat.now c.in_default.not-Keep c.if-seat-ge1.true

pub returns-else-seat-ge1 : goal.returns-else-seat-ge1
returns-else-seat-ge1 c = known_low c.args.panels c.args.seat.now c.in_default.not-Keep c.if-seat-ge1.false

use Rattle.std.proofs.Common.{◌∙◌}
use Rattle.tick_units.proofs.SeatSets.{none_missing}
use Rattle.tick_units.proofs.order.missing_seat.Goals as goal

pub returns-then-seats-seat_count : goal.returns-then-seats-seat_count
returns-then-seats-seat_count c =
    none_missing c.args.panels c.args.seats.now c.requires.sound (c.if-seats-seat_count.true ∙ c.seat_count.ensures)

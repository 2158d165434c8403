use Rattle.std.proofs.Common.{◌∙◌}
use Rattle.tick_units.proofs.Seats.{contains-is_among}
use Rattle.tick_units.proofs.order.is_among.Goals as goal

pub returns : goal.returns
returns c = c.contains.ensures.value ∙ contains-is_among c.args.seat.now c.args.seats.now

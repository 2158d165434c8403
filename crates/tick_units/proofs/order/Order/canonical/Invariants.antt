use Rattle.std.proofs.Common.{◌≡◌}
use Rattle.tick_units.specs.Orders.{seats_of_panels}
use Rattle.tick_units.proofs.order.Order.canonical.Given as goal

abbrev pub invariant-loop-before : goal.invariant-loop-before
invariant-loop-before l = l.seats.items ≡ seats_of_panels l.before

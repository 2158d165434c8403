use Rattle.std.proofs.Common.{◌≡◌, take}
use Rattle.tick_units.specs.Orders.{canonical_seats}
use Rattle.drill_record.proofs.orders.reversed_order.Given as goal

-- the first seats stand there
abbrev pub invariant-loop-place : goal.invariant-loop-place
invariant-loop-place l = l.seats.items ≡ take l.place (canonical_seats l.panels)

use Rattle.std.proofs.Common.{◌≡◌, drop}
use Rattle.tick_units.specs.Orders.{first_missing}
use Rattle.tick_units.proofs.order.Order.first_missing.Given as goal

-- no seat before this one is missing
abbrev pub invariant-loop-seat : goal.invariant-loop-seat
invariant-loop-seat l = first_missing l.seat-items l.others ≡ first_missing (drop l.seat-index l.seat-items) l.others

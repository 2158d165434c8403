use Rattle.std.proofs.Common.{take}
use Rattle.tick_units.specs.Orders.{IsSound}
use Rattle.tick_units.specs.SeatSets.{HasAllBut}
use Rattle.tick_units.proofs.order.check_seats.Given as goal

-- the seats so far are sound, and the set has the others
abbrev pub invariant-loop-before : goal.invariant-loop-before
invariant-loop-before l =
    record {
      sound : IsSound l.panels (take l.before l.seats);
      left : HasAllBut l.panels (take l.before l.seats) l.left;
    }

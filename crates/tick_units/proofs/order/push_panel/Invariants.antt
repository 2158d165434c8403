use Rattle.std.proofs.Common.{◌≡◌, ◌++◌, take, map}
use Rattle.tick_units.specs.Orders.{panel_tasks, seat_of}
use Rattle.tick_units.proofs.order.push_panel.Given as goal

abbrev pub invariant-loop-task : goal.invariant-loop-task
invariant-loop-task l = l.seats.items ≡ l.initial.seats.items ++ map (seat_of l.panel) (take l.task-index panel_tasks)

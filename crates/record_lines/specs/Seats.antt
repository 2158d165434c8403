-- What the seats of an order line are, and the order that they give.
use Rattle.std.specs.Prelude.{◌+◌, ◌||◌, ℕ, zero, suc, Bool, false, min, List, [], ◌∷◌, codes, bytes_eq, length}
use Rattle.std.specs.Prelude.{Option, Some, None, is_some, Result, Ok, Err}
use Rattle.site_types.specs.Numbers.{number_of}
use Rattle.tick_units.specs.Orders.{order_fault, seat_of as seat_at, keep_seat}
use Rattle.tick_units.specs.declared.task.Task.{Task}
use Rattle.tick_units.specs.declared.seat.Seat.{Seat}
use Rattle.tick_units.specs.declared.order_fault.BadOrder.{BadOrder}
use Rattle.tick_units.specs.declared.order_fault.BadOrder.TheVariants.{Repeated, Missing, Strange}
use Rattle.site_types.specs.Fields.{after_space, before_space}
use Rattle.record_lines.specs.Words.{task_of}
use Rattle.record_lines.specs.declared.why.Why.{Why}
use Rattle.record_lines.specs.declared.why.Why.TheVariants.{BadOrder as RefusedOrder}

-- `k` alone, or a letter and a number
abbrev pub is_numbered : List ℕ → Bool
is_numbered [] = false
is_numbered (letter ∷ number) = bytes_eq (letter ∷ number) (codes "k") || is_some (number_of number)

-- the panel of a number. No panel has a number above 255, which is taken for 255
abbrev pub panel_of : Option ℕ → ℕ
panel_of None = 0
panel_of (Some number) = min number 255

abbrev pub seat_with : Option Task → List ℕ → Seat
seat_with None number = keep_seat
seat_with (Some task) number = seat_at (panel_of (number_of number)) task

-- the seat of a field: a task's letter and its panel's number, else Keep
abbrev pub seat_of : List ℕ → Seat
seat_of [] = keep_seat
seat_of (letter ∷ number) = seat_with (task_of letter) number

-- the seats of the next fields
abbrev pub seats_of : ℕ → List ℕ → List Seat
seats_of zero text = []
seats_of (suc more) text = seat_of (before_space text) ∷ seats_of more (after_space text)

-- the place that a refusal tells, for so many seats
abbrev pub place_of : ℕ → BadOrder → ℕ
place_of seats (Repeated place) = place
place_of seats (Missing seat) = seats + 1
place_of seats (Strange place) = place

abbrev pub order_unless : List Seat → Option BadOrder → Result (List Seat) Why
order_unless seats None = Ok seats
order_unless seats (Some fault) = Err (RefusedOrder (place_of (length seats) fault))

-- the order of these seats, or what is wrong with them
abbrev pub order_of : ℕ → List Seat → Result (List Seat) Why
order_of panels seats = order_unless seats (order_fault panels seats)

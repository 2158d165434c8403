-- What a set of seats, kept as a bit for each panel and task, tells.
use Rattle.std.specs.Prelude.{◌≡◌, ◌≤◌, ◌==◌, ◌&&◌, ℕ, Bool, not, List, length, slice_index}
use Rattle.std.specs.Int.{bit_at}
use Rattle.tick_units.specs.declared.seat.Seat.{Seat}
use Rattle.tick_units.specs.declared.seat_set.SeatSet.{SeatSet}
use Rattle.tick_units.specs.Orders.{canonical_seats, is_among, task_number}

-- the bit of a seat in the tasks of the panels
abbrev pub holds_seat : List ℕ → Seat → Bool
holds_seat tasks s = bit_at (slice_index tasks s.panel) (task_number s.task) == 1

-- a seat is one of a site of so many panels, and not among these
abbrev pub is_left_over : ℕ → List Seat → Seat → Bool
is_left_over panels seats s = is_among s (canonical_seats panels) && not (is_among s seats)

-- of the panels of a site, the set has its seats but these
pub record HasAllBut (panels : ℕ) (seats : List Seat) (set : SeatSet) : Type 0 where
  pub wide : length set.tasks ≡ 9
  pub each : (s : Seat) → s.panel ≤ panels → holds_seat set.tasks s ≡ is_left_over panels seats s

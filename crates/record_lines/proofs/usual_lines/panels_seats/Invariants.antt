use Rattle.std.proofs.Common.{◌≡◌, ◌≤◌, ◌+◌, ◌-◌, ◌*◌, ◌++◌, [], length, map, take}
use Rattle.record_lines.specs.Printed.{joined, seat_text}
use Rattle.record_lines.proofs.usual_lines.panels_seats.Given as goal

-- the text so far is that of the seats that were added, and what is left of three bytes for each has room
abbrev pub invariant-loop-place : goal.invariant-loop-place
invariant-loop-place l = record {
  low : 2 ≤ l.place;
  front : joined [] (map seat_text l.seats.items) ≡ joined [] (map seat_text l.initial.seats.items) ++ take (l.place - 2) l.text;
  within : l.place ≤ length l.text + 2;
  room : l.room + 3 * length l.seats.items ≤ 193 + l.place;
}

abbrev pub decreases-loop-place : goal.decreases-loop-place
decreases-loop-place l = length l.text + 2 - l.place

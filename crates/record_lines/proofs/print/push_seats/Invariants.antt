use Rattle.std.proofs.Common.{◌≡◌, ◌≤◌, ◌+◌, ◌*◌, length, map, take}
use Rattle.record_lines.specs.Printed.{joined, seat_text}
use Rattle.record_lines.proofs.print.push_seats.Given as goal

-- the seats so far stand there, each in at most five bytes
abbrev pub invariant-loop-place : goal.invariant-loop-place
invariant-loop-place l = record {
  text : l.out.items ≡ joined l.initial.out.items (map seat_text (take l.place l.order));
  room : length l.out.items ≤ length l.initial.out.items + 5 * l.place;
}

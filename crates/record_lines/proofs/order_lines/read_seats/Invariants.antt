use Rattle.std.proofs.Common.{◌≡◌, ◌-◌, ◌++◌, ◌&&◌, length}
use Rattle.line_fields.specs.Fields.{each_field}
use Rattle.record_lines.specs.Forms.{is_seat}
use Rattle.record_lines.specs.Seats.{is_numbered, seats_of}
use Rattle.record_lines.proofs.order_lines.read_seats.Given as goal

-- what is left decides
abbrev pub invariant-loop-seat : goal.invariant-loop-seat
invariant-loop-seat l = record {
  formed : each_field is_seat (l.count - l._seat) l.rest ≡ each_field is_seat l.count l.fields;
  numbers : (l.numbered && each_field is_numbered (l.count - l._seat) l.rest) ≡ each_field is_numbered l.count l.fields;
  seats : l.seats.items ++ seats_of (l.count - l._seat) l.rest ≡ seats_of l.count l.fields;
  many : length l.seats.items ≡ l._seat;
}

use Rattle.std.proofs.Common.{◌≡◌, ◌≤◌, ◌-◌, length}
use Rattle.desk_requests.specs.Rooms.{read_into}
use Rattle.desk_requests.proofs.ReadPieces.{ReadsOn}
use Rattle.desk_requests.proofs.reading.read_body.Given as goal

abbrev pub invariant-loop-room : goal.invariant-loop-room
invariant-loop-room g l =
    record {
      read : ReadsOn (g.C.Stream.left l.initial.conn) (g.C.Stream.left l.conn) (read_into l.initial.room) (read_into l.room);
      counted : g.C.Stream.read_faults l.initial.conn ≤ g.C.Stream.read_faults l.conn;
      written : g.C.Stream.written l.conn ≡ g.C.Stream.written l.initial.conn;
      writes : g.C.Stream.write_faults l.conn ≡ g.C.Stream.write_faults l.initial.conn;
    }

abbrev pub decreases-loop-room : goal.decreases-loop-room
decreases-loop-room g l = l.end - length (read_into l.room)

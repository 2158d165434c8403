use Rattle.std.proofs.Common.{◌≡◌, ◌≤◌, ◌-◌, length}
use Rattle.panel_edges.specs.Contents.{Consumes}
use Rattle.desk_requests.specs.Rooms.{read_into}
use Rattle.desk_requests.proofs.reading.read_request.Given as goal

abbrev pub invariant-loop-head : goal.invariant-loop-head
invariant-loop-head g l =
    record {
      read : Consumes (g.C.Stream.left l.initial.conn) (g.C.Stream.left l.conn) (read_into l.room);
      counted : g.C.Stream.read_faults l.initial.conn ≤ g.C.Stream.read_faults l.conn;
      written : g.C.Stream.written l.conn ≡ g.C.Stream.written l.initial.conn;
      writes : g.C.Stream.write_faults l.conn ≡ g.C.Stream.write_faults l.initial.conn;
      within : length (read_into l.room) ≤ 8192;
    }

abbrev pub decreases-loop-head : goal.decreases-loop-head
decreases-loop-head g l = 8192 - length (read_into l.room)

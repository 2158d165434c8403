use Rattle.std.proofs.Common.{◌≡◌, ◌≤◌, ◌-◌, length}
use Rattle.panel_edges.specs.Contents.{Consumes}
use Rattle.desk_requests.specs.Rooms.{read_into}
use Rattle.node_inputs.proofs.reading.read_whole.Given as goal

abbrev pub invariant-loop-room : goal.invariant-loop-room
invariant-loop-room g l =
    record {
      read : Consumes (g.C.Stream.left l.initial.conn) (g.C.Stream.left l.conn) (read_into l.room);
      counted : g.C.Stream.read_faults l.initial.conn ≤ g.C.Stream.read_faults l.conn;
      written : g.C.Stream.written l.conn ≡ g.C.Stream.written l.initial.conn;
      writes : g.C.Stream.write_faults l.conn ≡ g.C.Stream.write_faults l.initial.conn;
      within : length (read_into l.room) ≤ 65537;
    }

abbrev pub decreases-loop-room : goal.decreases-loop-room
decreases-loop-room g l = 65537 - length (read_into l.room)

use Rattle.std.proofs.Common.{◌≡◌, refl, subst, sym}
use Rattle.desk_doors.proofs.Passing.{handed_then}
use Rattle.desk_doors.specs.Doors.{Gives, conn_told}
use Rattle.node_command.proofs.connections.serve_next.Goals as goal

pub returns-clause-serves : goal.returns-clause-serves
returns-clause-serves g c site panel kept history ticks runs room =
    let one = c.serve_one-exchanged.ensures.serves site panel kept history ticks runs room in
    let given = c.in_ok-conn.conn in
    let back = c.serve_one-exchanged.new.conn in
    let told = conn_told (g.G.Conn.Stream.left given) (g.G.Conn.Stream.written given) in
    let told_back = conn_told (g.G.Conn.Stream.left back) (g.G.Conn.Stream.written back) in
    record {
      later = one.after;
      next = one.next;
      conn = record { given = told; back = told_back; exchanged = c.serve_one-exchanged.result };
      is_conn = refl;
      gives = subst (λ o. Gives (g.G.Door.waiting c.args.door.now) o told) (sym c.finish.ensures.waiting) c.in_ok-conn.ensures.given;
      takes = handed_then (g.G.Door.handed c.args.door.now) (g.G.Door.handed c.next.new.self) (g.G.Door.handed c.finish.new.self) told_back
          c.next.ensures.handed c.finish.ensures.handed;
      exchanges = one.exchanges;
      runs = one.runs;
      stores = one.stores;
      few = one.few;
    }

use Rattle.std.proofs.Common.{arith, refl, subst, sym}
use Rattle.desk_doors.specs.Doors.{conn_told}
use Rattle.desk_requests.specs.Rooms.{read_into}
use Rattle.node_inputs.specs.Reading.{ReadsInput}
use Rattle.panel_edges.specs.Faults.{Rose}
use Rattle.site_run.specs.Outside.{disks_of}
use Rattle.node_desk.specs.Replies.{reply_bytes}
use Rattle.node_desk.specs.Running.{KeepsOn}
use Rattle.node_desk.specs.Serving.{WroteBy}
use Rattle.node_desk.proofs.Served.{served_not, served_so}
use Rattle.node_desk.proofs.desk.NodeDesk.serve_one.Goals as goal

pub send-requires : goal.send-requires
send-requires g c =
    let r = c.requires.may in
    let replied = c.reply_to-reply.ensures.replies r.site r.panel r.kept r.history r.ticks r.runs r.room in
    record { site = r.site; panel = r.panel; kept = r.kept; history = replied.after; ticks = replied.next; runs = replied.runs }

pub returns-in-Ok-clause-serves : goal.returns-in-Ok-clause-serves
returns-in-Ok-clause-serves g c site panel kept history ticks h room =
    let disks = disks_of g.D.Disk.honest g.D.Disk.images g.D.Disk.moment g.D.Disk.left_since c.args.disk.now c.reply_to-reply.new.disk in
    let given = conn_told (g.C.Stream.left c.args.conn.now) (g.C.Stream.written c.args.conn.now) in
    let back = conn_told (g.C.Stream.left c.send.new.out) (g.C.Stream.written c.send.new.out) in
    let old = c.args.self.now.run in
    let mid = c.reply_to-reply.new.self in
    let reply = c.reply_to-reply.result in
    let replied = c.reply_to-reply.ensures.replies site panel kept history ticks h room in
    let read = subst (λ left. ReadsInput given.unread left (read_into c.read_whole.new.room)) (sym c.send.ensures.left) c.in-Ok.ensures.read in
    let wrote =
    subst (λ w. WroteBy c.send.result w back.answer (reply_bytes site panel kept mid.node.digest history replied.after reply)) c.in-Ok.ensures.written
    (c.send.ensures.sends site panel kept history replied.after replied.next replied.runs replied.at_hand) in
    served_so site panel kept history ticks given back disks old c.read_so_far.result.now (read_into c.read_whole.new.room) mid c.send.new.self reply c.send.result c.send.new.self.page read
    c.read_so_far.ensures replied c.reply_to-reply.ensures.digest wrote c.send.ensures.rest

pub returns-in-Err-clause-serves : goal.returns-in-Err-clause-serves
returns-in-Err-clause-serves g c site panel kept history ticks h room =
    let disks = disks_of g.D.Disk.honest g.D.Disk.images g.D.Disk.moment g.D.Disk.left_since c.args.disk.now c.args.disk.now in
    let given = conn_told (g.C.Stream.left c.args.conn.now) (g.C.Stream.written c.args.conn.now) in
    let back = conn_told (g.C.Stream.left c.read_whole.new.conn) (g.C.Stream.written c.read_whole.new.conn) in
    served_not site panel kept history ticks given back disks c.args.self.now.run refl h c.read_whole.ensures.written

pub returns-in-Ok-clause-disk : goal.returns-in-Ok-clause-disk
returns-in-Ok-clause-disk g c =
    let keeps = c.reply_to-reply.ensures.disk in
    subst (KeepsOn g.D.Disk.honest g.D.Disk.images g.D.Disk.faults c.args.disk.now c.reply_to-reply.new.disk c.args.self.now.run)
    {x = record c.reply_to-reply.new.self { page = c.send.new.self.page }} (sym c.send.ensures.rest)
    (record { stands = keeps.stands; digest = keeps.digest; early = keeps.early; later = keeps.later; blames = keeps.blames })

pub returns-in-Ok-clause-conn : goal.returns-in-Ok-clause-conn
returns-in-Ok-clause-conn g c =
    let sent = c.send.ensures.faults in
    let later = sent.later in
    let writes = c.in-Ok.ensures.writes in
    let read = c.in-Ok.ensures.cause.later in
    let reads = c.send.ensures.reads in
    record {
      reads_later = omega (arith, read, reads);
      writes_later = omega (arith, later, writes);
      read = λ is. absurd (sent.not_read is);
      write = λ is. subst (λ n. Rose n (g.C.Stream.write_faults c.send.new.out)) writes (sent.failed is);
    }

pub returns-in-Err-clause-conn : goal.returns-in-Err-clause-conn
returns-in-Err-clause-conn g c =
    let writes = c.in-Err.ensures.writes in
    let cause = c.in-Err.ensures.cause in
    let later = cause.later in
    record {
      reads_later = later;
      writes_later = omega (arith, writes);
      read = λ is. cause.failed;
      write = λ is. absurd cc;
    }

use Rattle.std.proofs.Common.{◌≡◌, ◌∙◌, ◌≤◌, length, refl, sym, subst}
use Rattle.desk_register.specs.Replies.{sides_of}
use Rattle.desk_requests.specs.Rooms.{read_into}
use Rattle.desk_requests.specs.declared.taken.Taken.TheVariants.{Asked, Ended, ReadFault, Refused}
use Rattle.desk_ticks.specs.Blocks.{most_block_bytes}
use Rattle.panel_desk.proofs.Asked.{body_short, body_within, is_of_site}
use Rattle.panel_desk.proofs.Connections.{broken, ended, read_here, refused_head, replied}
use Rattle.panel_desk.proofs.Replied.{panels_of_site, replied_as}
use Rattle.panel_desk.specs.Acting.{SendsReply}
use Rattle.panel_desk.specs.Replies.{Replies, refused_reply}
use Rattle.panel_desk.specs.Serving.{SentBy, conn_sides}
use Rattle.site_run.specs.Outside.{disks_of}
use Rattle.desk_requests.specs.Taking.{HasWhole, body_of}
use Rattle.panel_desk.proofs.desk.Desk.serve_one.Goals as goal

pub reply_to-reply-requires-clause-may : goal.reply_to-reply-requires-clause-may
reply_to-reply-requires-clause-may g c =
    let r = c.requires.may in
    let bytes = read_into c.read_request.new.room in
    let whole = subst (λ n. HasWhole n bytes c.in-Asked.request) r.panels_are c.in-Asked.ensures.takes.answered in
    record {
      site = r.site;
      kept = r.kept;
      ticks = r.ticks;
      stands = r.stands;
      room = r.room;
      short = subst (λ xs. length xs ≤ most_block_bytes) (sym c.body-body.ensures) (body_short r.site bytes c.in-Asked.request whole);
      of = is_of_site r.site bytes c.in-Asked.request whole;
      points_are = r.points_are;
    }

pub returns-in-Ended-clause-serves : goal.returns-in-Ended-clause-serves
returns-in-Ended-clause-serves g c site kept ticks stands room =
    let panels = panels_of_site c.requires.may stands in
    let read = c.read_request in
    let bytes = read_into read.new.room in
    let conn = conn_sides g.C.Stream.left g.C.Stream.written c.args.conn.now read.new.conn in
    let sides = sides_of g.R.Keeper.tables g.R.Keeper.faults c.args.keeper.now c.args.keeper.now in
    ended site kept ticks conn sides (disks_of g.D.Disk.honest g.D.Disk.images g.D.Disk.moment g.D.Disk.left_since c.args.disk.now c.args.disk.now) c.args.run.now bytes refl stands
    (read_here c.args.self.now.panels site.panels conn.left conn.rest conn.rest bytes Ended panels refl c.in-Ended.ensures.takes) refl read.ensures.written

pub returns-in-ReadFault-clause-serves : goal.returns-in-ReadFault-clause-serves
returns-in-ReadFault-clause-serves g c site kept ticks stands room =
    let panels = panels_of_site c.requires.may stands in
    let read = c.read_request in
    let bytes = read_into read.new.room in
    let conn = conn_sides g.C.Stream.left g.C.Stream.written c.args.conn.now read.new.conn in
    let sides = sides_of g.R.Keeper.tables g.R.Keeper.faults c.args.keeper.now c.args.keeper.now in
    broken site kept ticks conn sides (disks_of g.D.Disk.honest g.D.Disk.images g.D.Disk.moment g.D.Disk.left_since c.args.disk.now c.args.disk.now) c.args.run.now bytes refl stands
    (read_here c.args.self.now.panels site.panels conn.left conn.rest conn.rest bytes ReadFault panels refl c.in-ReadFault.ensures.takes) refl read.ensures.written

pub returns-in-Refused-clause-serves : goal.returns-in-Refused-clause-serves
returns-in-Refused-clause-serves g c site kept ticks stands room =
    let panels = panels_of_site c.requires.may stands in
    let read = c.read_request in
    let sent = c.send in
    let bytes = read_into read.new.room in
    let status = c.in-Refused.status in
    let disks = disks_of g.D.Disk.honest g.D.Disk.images g.D.Disk.moment g.D.Disk.left_since c.args.disk.now c.args.disk.now in
    let conn = conn_sides g.C.Stream.left g.C.Stream.written c.args.conn.now sent.new.out in
    let sides = sides_of g.R.Keeper.tables g.R.Keeper.faults c.args.keeper.now c.args.keeper.now in
    let sends =
    subst (λ reply. SendsReply reply (g.C.Stream.written read.new.conn) (g.C.Stream.written sent.new.out) c.args.run.now sent.result) c.refused.ensures sent.ensures.sends in
    refused_head site kept ticks conn sides disks c.args.run.now sent.new.run bytes status sent.result refl stands
    (read_here c.args.self.now.panels site.panels conn.left (g.C.Stream.left read.new.conn) conn.rest bytes (Refused status) panels sent.ensures.left
    c.in-Refused.ensures.takes) refl sent.ensures.rest
    (subst (λ o. SentBy site kept ticks (refused_reply status) o (g.C.Stream.written sent.new.out) sent.result) read.ensures.written (sends site kept ticks stands tt))

pub returns-in-Asked-clause-serves : goal.returns-in-Asked-clause-serves
returns-in-Asked-clause-serves g c site kept ticks stands room =
    let panels = panels_of_site c.requires.may stands in
    let read = c.read_request in
    let sent = c.send-in-Asked in
    let request = c.in-Asked.request in
    let reply = c.reply_to-reply.result in
    let bytes = read_into read.new.room in
    let disks = disks_of g.D.Disk.honest g.D.Disk.images g.D.Disk.moment g.D.Disk.left_since c.args.disk.now c.reply_to-reply.new.disk in
    let conn = conn_sides g.C.Stream.left g.C.Stream.written c.args.conn.now sent.new.out in
    let sides = sides_of g.R.Keeper.tables g.R.Keeper.faults c.args.keeper.now c.reply_to-reply.new.keeper in
    let did =
    replied_as (λ after. Replies site request.route c.body-body.result.now sides ticks after reply)
    (λ after. Replies site request.route (body_of request bytes) sides ticks after reply) site kept ticks disks reply c.args.run.now c.reply_to-reply.new.run
    (λ after does. subst (λ xs. Replies site request.route xs sides ticks after reply) c.body-body.ensures does)
    (c.reply_to-reply.ensures.replies site kept ticks stands room) in
    replied site kept ticks conn sides disks c.args.run.now c.reply_to-reply.new.run sent.new.run bytes request reply sent.result
    (read_here c.args.self.now.panels site.panels conn.left (g.C.Stream.left read.new.conn) conn.rest bytes (Asked request) panels sent.ensures.left
    c.in-Asked.ensures.takes) did sent.ensures.rest
    (subst (λ o. SentBy site kept did.after reply o (g.C.Stream.written sent.new.out) sent.result) read.ensures.written
    (sent.ensures.sends site kept did.after did.stands did.at_hand))

pub body-body-requires : goal.body-body-requires
body-body-requires g c =
    let r = c.requires.may in
    let bytes = read_into c.read_request.new.room in
    body_within r.site bytes c.in-Asked.request (subst (λ n. HasWhole n bytes c.in-Asked.request) r.panels_are c.in-Asked.ensures.takes.answered)

pub send-requires-in-Asked : goal.send-requires-in-Asked
send-requires-in-Asked g c =
    let r = c.requires.may in
    let replied = c.reply_to-reply.ensures.replies r.site r.kept r.ticks r.stands r.room in
    record {
      may = record {
        site = r.site;
        kept = r.kept;
        ticks = replied.after;
        stands = replied.stands;
        at_hand = replied.at_hand;
      };
    }

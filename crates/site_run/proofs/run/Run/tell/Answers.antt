use Rattle.std.proofs.Common.{arith}
use Rattle.record_lines.specs.Events.{event_view}
use Rattle.site_run.specs.Records.{moments_in}
use Rattle.site_run.proofs.Codes.{marked_for_view, stands_for_view}
use Rattle.site_run.proofs.Progresses.{few_asked}
use Rattle.site_run.proofs.Stood.{told, untold}
use Rattle.site_run.proofs.run.Run.tell.Goals as goal

pub event-requires : goal.event-requires
event-requires c =
    let r = c.requires in
    let short = r.stands.short in
    let asked = few_asked r.site (moments_in r.p) in
    record {
      site = r.site;
      kept = r.kept;
      before = moments_in r.p;
      stands = r.stands.system;
      has = r.has;
      few = omega (arith, short, asked);
    }

pub returns-then-self-clause-tells : goal.returns-then-self-clause-tells
returns-then-self-clause-tells c site kept p h short =
    told site kept p c.args.self.now (event_view c.args.event) c.event.new.self h c.if-self.true
    (stands_for_view site kept c.args.event (moments_in p) c.event.new.self (c.event.ensures.takes site kept (moments_in p) h.system))
    (marked_for_view site kept c.args.event (moments_in p) c.event.new.self.changed (c.event.ensures.marks site kept (moments_in p) h.system h.marks)) short

pub returns-else-self-clause-tells : goal.returns-else-self-clause-tells
returns-else-self-clause-tells c site kept p h short = untold site kept p c.args.self.now (event_view c.args.event) h c.if-self.false

use Rattle.std.proofs.Common.{refl}
use Rattle.site_run.specs.Outside.{disks_of}
use Rattle.panel_program.proofs.Taking.{end_failed, end_taken, event_taken, order_taken, tick_failed, tick_may_open, tick_taken}
use Rattle.panel_program.proofs.reading.take_line.Goals as goal

pub begin-requires : goal.begin-requires
begin-requires g c =
    let r = c.requires.may in
    let disks = disks_of g.D.Disk.honest g.D.Disk.images g.D.Disk.moment g.D.Disk.left_since c.args.disk.now c.close.new.disk in
    tick_may_open disks r.site r.kept r.p c.args.line c.in-Tick.tick (g.K.Stream.written c.args.out.now) (g.K.Stream.written c.close.new.out) c.args.run.now
    c.close.new.self c.in-Tick.is r.stands r.comes c.in_ok-close-in-Tick.ensures.ok

pub returns-in_ok-close-in-Tick-clause-takes : goal.returns-in_ok-close-in-Tick-clause-takes
returns-in_ok-close-in-Tick-clause-takes g c site kept p h may =
    let disks = disks_of g.D.Disk.honest g.D.Disk.images g.D.Disk.moment g.D.Disk.left_since c.args.disk.now c.close.new.disk in
    tick_taken disks site kept p c.args.line c.in-Tick.tick (g.K.Stream.written c.args.out.now) (g.K.Stream.written c.close.new.out) c.args.run.now
    c.close.new.self c.begin.new.self c.in-Tick.is h may c.in_ok-close-in-Tick.ensures.ok c.begin.ensures.opens c.begin.ensures.same

pub returns-in_ok-close-in-End-clause-takes : goal.returns-in_ok-close-in-End-clause-takes
returns-in_ok-close-in-End-clause-takes g c site kept p h may =
    let disks = disks_of g.D.Disk.honest g.D.Disk.images g.D.Disk.moment g.D.Disk.left_since c.args.disk.now c.close-in-End.new.disk in
    end_taken disks site kept p c.args.line (g.K.Stream.written c.args.out.now) (g.K.Stream.written c.close-in-End.new.out) c.args.run.now
    c.close-in-End.new.self c.in-End.is h may c.in_ok-close-in-End.ensures.ok

pub returns-in-Event-clause-takes : goal.returns-in-Event-clause-takes
returns-in-Event-clause-takes g c site kept p h may =
    let disks = disks_of g.D.Disk.honest g.D.Disk.images g.D.Disk.moment g.D.Disk.left_since c.args.disk.now c.args.disk.now in
    event_taken disks site kept p c.args.line c.in-Event.event (g.K.Stream.written c.args.out.now) c.args.run.now c.tell.new.self c.in-Event.is h may
    c.tell.ensures.tells refl c.tell.ensures.same

pub returns-in-Order-clause-takes : goal.returns-in-Order-clause-takes
returns-in-Order-clause-takes g c site kept p h may =
    let disks = disks_of g.D.Disk.honest g.D.Disk.images g.D.Disk.moment g.D.Disk.left_since c.args.disk.now c.args.disk.now in
    order_taken disks site kept p c.args.line c.in-Order.order (g.K.Stream.written c.args.out.now) c.args.run.now c.set_order.new.self c.in-Order.is may
    (c.set_order.ensures.stands site kept p h) refl c.set_order.ensures.same

pub returns-in_err-close-in-Tick-clause-takes : goal.returns-in_err-close-in-Tick-clause-takes
returns-in_err-close-in-Tick-clause-takes g c site kept p h may =
    let disks = disks_of g.D.Disk.honest g.D.Disk.images g.D.Disk.moment g.D.Disk.left_since c.args.disk.now c.close.new.disk in
    tick_failed disks site kept p c.args.line c.in-Tick.tick (g.K.Stream.written c.args.out.now) (g.K.Stream.written c.close.new.out) c.args.run.now
    c.close.new.self c.from_residual.result c.in-Tick.is h may c.in_err-close-in-Tick.ensures.err c.from_residual.ensures.0

pub returns-in_err-close-in-End-clause-takes : goal.returns-in_err-close-in-End-clause-takes
returns-in_err-close-in-End-clause-takes g c site kept p h may =
    let disks = disks_of g.D.Disk.honest g.D.Disk.images g.D.Disk.moment g.D.Disk.left_since c.args.disk.now c.close-in-End.new.disk in
    end_failed disks site kept p c.args.line (g.K.Stream.written c.args.out.now) (g.K.Stream.written c.close-in-End.new.out) c.args.run.now
    c.close-in-End.new.self c.from_residual-in_err-close-in-End.result c.in-End.is h may c.in_err-close-in-End.ensures.err
    c.from_residual-in_err-close-in-End.ensures.0

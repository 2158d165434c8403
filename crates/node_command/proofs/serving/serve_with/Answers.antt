use Rattle.std.proofs.Common.{◌≡◌, ◌∙◌, inl, inr, ap, refl}
use Rattle.desk_doors.specs.Passing.{door_sides}
use Rattle.desk_doors.proofs.Passing.{none_passed, still_tells}
use Rattle.node_command.proofs.Each.{back_of, given_of}
use Rattle.node_command.proofs.Ends.{served_all}
use Rattle.program_status.specs.declared.outcome.Outcome.{Outcome}
use Rattle.site_run.specs.Outside.{disk_kind}
use Rattle.site_run.proofs.PowerCuts.{leaves_opened}
use Rattle.node_command.proofs.serving.serve_with.Goals as goal

pub returns-in_default-clause-serves : goal.returns-in_default-clause-serves
returns-in_default-clause-serves g c seen is =
    let told = c.after.ensures in
    let door = door_sides g.G.Door.waiting g.G.Door.handed c.args.door.now c.args.door.now in
    let cut =
    leaves_opened (disk_kind g.D.Disk.honest g.D.Disk.images g.D.Disk.moment g.D.Disk.left_since)
    c.args.site c.args.journal.kept c.args.digest seen c.args.disk.now c.args.journal c.requires.journal c.requires.stands is
    (g.D.Disk.seen c.args.disk.now) in
    inl (record {
      ran = record {
        status = ap (λ (o : Outcome). o.status) told;
        ticks = ap (λ (o : Outcome). o.ticks) told;
        failures = ap (λ (o : Outcome). o.store_failures) told;
        same = refl;
      };
      gave = none_passed given_of back_of door refl (still_tells (g.G.Door.handed c.args.door.now));
      cut = cut;
    })

pub returns-clause-serves : goal.returns-clause-serves
returns-clause-serves g c seen is =
    let opened = c.in-Ok.ensures in
    let serve = c.serve-end in
    let door = door_sides g.G.Door.waiting g.G.Door.handed c.args.door.now serve.new.door in
    let kind = disk_kind g.D.Disk.honest g.D.Disk.images g.D.Disk.moment g.D.Disk.left_since in
    inr (served_all kind c.args.site c.args.panel c.args.journal.kept c.args.digest seen (g.D.Disk.seen serve.new.disk) c.args.journal door c.args.disk.now
    serve.new.disk c.args.count c.in-Ok.desk.run serve.new.desk.run (g.K.Stream.written c.args.out.now) (g.K.Stream.written c.tell_end.new.out) c.tell_end.result
    serve.result c.ticks.result c.store_failures.result c.requires.journal c.requires.stands is opened.same opened.digest
    (serve.ensures.serves c.args.site c.args.panel c.args.journal.kept opened.stands) c.tell_end.ensures.says c.ticks.ensures c.store_failures.ensures
    c.tell_end.ensures.ticks.0 c.tell_end.ensures.ticks.1)

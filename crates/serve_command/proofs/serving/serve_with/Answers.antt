use Rattle.std.proofs.Common.{◌≡◌, ◌∙◌, inl, inr, ap, refl}
use Rattle.program_status.specs.declared.outcome.Outcome.{Outcome}
use Rattle.desk_doors.proofs.Passing.{none_passed, still_tells}
use Rattle.serve_command.proofs.Doors.{back_of, given_of}
use Rattle.serve_command.proofs.Ends.{served_all}
use Rattle.serve_command.specs.Acting.{worlds_of}
use Rattle.desk_doors.specs.Passing.{door_sides}
use Rattle.site_run.specs.Outside.{disk_kind}
use Rattle.site_run.proofs.PowerCuts.{leaves_opened}
use Rattle.serve_command.proofs.serving.serve_with.Goals as goal

pub returns-in_default-clause-serves : goal.returns-in_default-clause-serves
returns-in_default-clause-serves g c digest seen is =
    let told = c.after.ensures in
    let door = door_sides g.G.Door.waiting g.G.Door.handed c.args.door.now c.args.door.now in
    let cut =
    leaves_opened (disk_kind g.D.Disk.honest g.D.Disk.images g.D.Disk.moment g.D.Disk.left_since)
    c.args.site c.args.journal.kept digest seen c.args.disk.now c.args.journal c.requires.journal c.requires.stands is
    (g.D.Disk.seen c.args.disk.now) in
    inl (
      record {
        status = ap (λ (o : Outcome). o.status) told;
        ticks = ap (λ (o : Outcome). o.ticks) told;
        failures = ap (λ (o : Outcome). o.store_failures) told;
        same = refl;
      },
      record { gave = none_passed given_of back_of door refl (still_tells (g.G.Door.handed c.args.door.now)); tables = refl; faults = refl; cut = cut },
    )

pub returns-in_default-write_opening-clause-serves : goal.returns-in_default-write_opening-clause-serves
returns-in_default-write_opening-clause-serves g c digest seen is =
    let told = c.after-in_default-write_opening.ensures in
    let door = door_sides g.G.Door.waiting g.G.Door.handed c.args.door.now c.args.door.now in
    let at = c.in-Ok.ensures.opened in
    let cut =
    leaves_opened (disk_kind g.D.Disk.honest g.D.Disk.images g.D.Disk.moment g.D.Disk.left_since)
    c.args.site c.args.journal.kept digest seen c.args.disk.now c.args.journal c.requires.journal c.requires.stands is
    (g.D.Disk.seen c.args.disk.now) in
    inr (inl (record {
      alone = record { gave = none_passed given_of back_of door refl (still_tells (g.G.Door.handed c.args.door.now)); tables = refl; faults = refl; cut = cut };
      status = ap (λ (o : Outcome). o.status) told;
      ticks = ap (λ (o : Outcome). o.ticks) told;
      failures_are = ap (λ (o : Outcome). o.store_failures) told;
      broke = c.in_default-write_opening.ensures.err c.args.site c.args.journal.kept at.stands c.in-Ok.ensures.empty;
    }))

pub returns-clause-serves : goal.returns-clause-serves
returns-clause-serves g c digest seen is =
    let at = c.in-Ok.ensures.opened in
    let serve = c.serve-end in
    let worlds = worlds_of g.D.Disk.honest g.D.Disk.images g.D.Disk.moment g.D.Disk.left_since g.R.Keeper.tables g.R.Keeper.faults
    c.args.disk.now serve.new.disk c.args.keeper.now serve.new.keeper in
    let door = door_sides g.G.Door.waiting g.G.Door.handed c.args.door.now serve.new.door in
    inr (inr (served_all (disk_kind g.D.Disk.honest g.D.Disk.images g.D.Disk.moment g.D.Disk.left_since)
    c.args.site c.args.journal.kept digest seen (g.D.Disk.seen serve.new.disk) c.args.journal door worlds.old worlds.new c.args.count
    c.in-Ok.counter serve.new.self (g.K.Stream.written c.args.out.now) (g.K.Stream.written c.write_opening.new.out) (g.K.Stream.written c.tell_end.new.out)
    c.tell_end.result serve.result c.requires.journal c.requires.stands is c.in-Ok.ensures.same
    (c.in-Ok-write_opening.ensures.ok c.args.site c.args.journal.kept at.stands c.in-Ok.ensures.empty)
    (serve.ensures.serves c.args.site c.args.journal.kept at) c.tell_end.ensures.says
    (c.tell_end.ensures.ticks.0 ∙ c.ticks.ensures) (c.tell_end.ensures.ticks.1 ∙ c.store_failures.ensures)))

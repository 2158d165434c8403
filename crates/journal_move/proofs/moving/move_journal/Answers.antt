use Rattle.std.proofs.Common.{refl}
use Rattle.journal_move.specs.Disks.{disks_of}
use Rattle.journal_move.proofs.Answering.{moves_on, new_moves, new_stops, old_stops}
use Rattle.journal_move.proofs.moving.move_journal.Goals as goal

pub returns-in-Ok-load-clause-answers : goal.returns-in-Ok-load-clause-answers
returns-in-Ok-load-clause-answers g c =
    let first = c.load.new.shelf in
    let last = c.load-2.new.shelf in
    let disks =
    disks_of g.D.Disk.seen g.D.Disk.honest g.D.Disk.images c.args.disk.now c.move_between.new.disk c.args.target.now c.move_between.new.target in
    let old = g.K.Stream.written c.args.out.now in
    let new = g.K.Stream.written c.move_between.new.out in
    moves_on c.args.old_name.now c.args.new_name.now (g.F.Shelf.files c.args.shelf.now) (g.F.Shelf.files first) (g.F.Shelf.faults c.args.shelf.now)
    (g.F.Shelf.faults first) (g.F.Shelf.faults last) c.load.ensures.later c.load-2.ensures.later disks old new c.move_between.result c.in-Ok.old
    c.load.ensures.files c.in-Ok.ensures.told c.in-Ok.ensures.digest
    (new_moves c.in-Ok.old c.in-Ok-load.new c.args.new_name.now (g.F.Shelf.files first) (g.F.Shelf.faults first) (g.F.Shelf.faults last) disks old new
    c.move_between.result c.in-Ok-load.ensures.told c.in-Ok-load.ensures.digest c.move_between.ensures.moves)

pub returns-in-Err-clause-answers : goal.returns-in-Err-clause-answers
returns-in-Err-clause-answers g c =
    old_stops c.args.old_name.now c.args.new_name.now (g.F.Shelf.files c.args.shelf.now) (g.F.Shelf.faults c.args.shelf.now)
    (g.F.Shelf.faults c.load.new.shelf)
    (disks_of g.D.Disk.seen g.D.Disk.honest g.D.Disk.images c.args.disk.now c.args.disk.now c.args.target.now c.args.target.now) (g.K.Stream.written c.args.out.now)
    (g.K.Stream.written c.stop_with_old.new.out) c.stop_with_old.result c.in-Err.stop c.in-Err.ensures.told
    (record {
      journal_alone = refl;
      target_alone = refl;
      tells = record {
        says = c.stop_with_old.ensures.says;
        ticks = c.stop_with_old.ensures.ticks.0;
        failures = c.stop_with_old.ensures.ticks.1;
      };
    })

pub returns-clause-answers : goal.returns-clause-answers
returns-clause-answers g c =
    let first = c.load.new.shelf in
    let last = c.load-2.new.shelf in
    let disks =
    disks_of g.D.Disk.seen g.D.Disk.honest g.D.Disk.images c.args.disk.now c.args.disk.now c.args.target.now c.args.target.now in
    let old = g.K.Stream.written c.args.out.now in
    let new = g.K.Stream.written c.stop_with.new.out in
    moves_on c.args.old_name.now c.args.new_name.now (g.F.Shelf.files c.args.shelf.now) (g.F.Shelf.files first) (g.F.Shelf.faults c.args.shelf.now)
    (g.F.Shelf.faults first) (g.F.Shelf.faults last) c.load.ensures.later c.load-2.ensures.later disks old new c.stop_with.result c.in-Ok.old
    c.load.ensures.files c.in-Ok.ensures.told c.in-Ok.ensures.digest
    (new_stops c.in-Ok.old c.args.new_name.now (g.F.Shelf.files first) (g.F.Shelf.faults first) (g.F.Shelf.faults last) disks old new c.stop_with.result
    c.in-Err-load.stop c.in-Err-load.ensures.told
    (record {
      journal_alone = refl;
      target_alone = refl;
      tells = record { says = c.stop_with.ensures.says; ticks = c.stop_with.ensures.ticks.0; failures = c.stop_with.ensures.ticks.1 };
    }))

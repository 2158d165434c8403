use Rattle.std.proofs.Common.{◌≡◌, ◌∙◌, ◌+◌, Bool, true, false, arith, refl, subst, sym}
use Rattle.desk_doors.specs.Passing.{door_sides}
use Rattle.desk_doors.proofs.Passing.{still_as}
use Rattle.serve_command.proofs.Each.{room_for, serves_more, serves_none, serves_same, stopped_as}
use Rattle.serve_command.specs.Acting.{EndsSo, ServesSome, worlds_of}
use Rattle.serve_command.specs.Doors.{is_stop}
use Rattle.serving_ends.specs.declared.serving_end.ServingEnd.{ServingEnd}
use Rattle.site_run.proofs.Disks.{keeps_more, keeps_same}
use Rattle.serve_command.proofs.counter.Counter.serve.Goals as goal

true_false : true ≡ false → ⊥
true_false e = cc

pub returns-in_default-clause-serves : goal.returns-in_default-clause-serves
returns-in_default-clause-serves g c site kept at =
    let worlds = worlds_of g.D.Disk.honest g.D.Disk.images g.D.Disk.moment g.D.Disk.left_since g.R.Keeper.tables g.R.Keeper.faults
    c.args.disk.now c.args.disk.now c.args.keeper.now c.args.keeper.now in
    let self = c.args.self.now in
    let door = door_sides g.G.Door.waiting g.G.Door.handed c.args.door.now c.start.new.self in
    let handed = still_as (g.G.Door.handed c.args.door.now) (g.G.Door.handed c.start.new.self) c.start.ensures.handed in
    subst (λ (end : ServingEnd). (stopped : Bool) × ServesSome site kept worlds.old worlds.new door self self end.served stopped × EndsSo c.args.count end stopped)
    (sym c.at_door.ensures) (
      false,
      serves_none site kept worlds.old door self c.start.ensures.waiting handed at,
      record { whole = λ e. absurd (true_false e); part = λ e. (c.requires.count.0, refl) },
    )

pub loop-served-init : goal.loop-served-init
loop-served-init g c =
    let worlds = worlds_of g.D.Disk.honest g.D.Disk.images g.D.Disk.moment g.D.Disk.left_since g.R.Keeper.tables g.R.Keeper.faults
    c.args.disk.now c.args.disk.now c.args.keeper.now c.args.keeper.now in
    let door = door_sides g.G.Door.waiting g.G.Door.handed c.args.door.now c.start.new.self in
    let handed = still_as (g.G.Door.handed c.args.door.now) (g.G.Door.handed c.start.new.self) c.start.ensures.handed in
    let run = c.args.self.now.run in
    record {
      within = omega arith;
      out = c.start.ensures.out ∙ c.requires.out;
      faults = c.start.ensures.cause.later;
      disk = keeps_same g.D.Disk.honest g.D.Disk.images g.D.Disk.faults c.args.disk.now run run refl refl c.requires.stands;
      some = λ site kept at. serves_none site kept worlds.old door c.args.self.now c.start.ensures.waiting handed at;
    }

pub loop-served-preserved : goal.loop-served-preserved
loop-served-preserved g c =
    let inv = c.loop-served.invariant in
    let next = c.serve_next in
    let now = c.loop-served in
    let first = worlds_of g.D.Disk.honest g.D.Disk.images g.D.Disk.moment g.D.Disk.left_since g.R.Keeper.tables g.R.Keeper.faults c.args.disk.now now.disk c.args.keeper.now now.keeper in
    let then' = worlds_of g.D.Disk.honest g.D.Disk.images g.D.Disk.moment g.D.Disk.left_since g.R.Keeper.tables g.R.Keeper.faults now.disk next.new.disk now.keeper next.new.keeper in
    let last = worlds_of g.D.Disk.honest g.D.Disk.images g.D.Disk.moment g.D.Disk.left_since g.R.Keeper.tables g.R.Keeper.faults
    c.args.disk.now next.new.disk c.args.keeper.now next.new.keeper in
    let door = door_sides g.G.Door.waiting g.G.Door.handed c.args.door.now now.door in
    let mid = door_sides g.G.Door.waiting g.G.Door.handed now.door next.new.door in
    let whole = door_sides g.G.Door.waiting g.G.Door.handed c.args.door.now next.new.door in
    let self = c.args.self.now in
    record {
      within = (let less = c.loop-served-test.true in omega (arith, less));
      out = next.ensures.out;
      faults = (let one = inv.faults in let other = next.ensures.cause.later in omega (arith, one, other));
      disk = keeps_more g.D.Disk.honest g.D.Disk.images g.D.Disk.faults c.args.disk.now now.disk next.new.disk self.run now.self.run next.new.self.run inv.disk
          next.ensures.disk;
      some = λ site kept at.
          let so_far = stopped_as site kept first.old first.new door self now.self now.served now.stopped false c.if-not-stopped.true (inv.some site kept at) in
          let within = inv.within in
          let most = c.requires.count.1 in
          let room = room_for site kept first.old first.new door self now.self now.served false so_far (omega (arith, within, most)) in
          let one = c.in-Ok-serve_next.ensures.serves site kept so_far.ticks so_far.is_at room in
          stopped_as site kept last.old last.new whole self next.new.self (now.served + 1) (is_stop c.in-Ok-serve_next.what) c.is_stop-stopped.result
          (sym c.is_stop-stopped.ensures)
          (serves_more site kept first.old first.new then'.new door mid self now.self next.new.self now.served c.in-Ok-serve_next.what refl refl so_far one);
    }

pub returns-in-Err-clause-serves : goal.returns-in-Err-clause-serves
returns-in-Err-clause-serves g c site kept at =
    let next = c.serve_next in
    let now = c.loop-served in
    let first = worlds_of g.D.Disk.honest g.D.Disk.images g.D.Disk.moment g.D.Disk.left_since g.R.Keeper.tables g.R.Keeper.faults c.args.disk.now now.disk c.args.keeper.now now.keeper in
    let then' = worlds_of g.D.Disk.honest g.D.Disk.images g.D.Disk.moment g.D.Disk.left_since g.R.Keeper.tables g.R.Keeper.faults now.disk next.new.disk now.keeper next.new.keeper in
    let door = door_sides g.G.Door.waiting g.G.Door.handed c.args.door.now now.door in
    let mid = door_sides g.G.Door.waiting g.G.Door.handed now.door next.new.door in
    let whole = door_sides g.G.Door.waiting g.G.Door.handed c.args.door.now next.new.door in
    let self = c.args.self.now in
    let so_far =
    stopped_as site kept first.old first.new door self now.self now.served now.stopped false c.if-not-stopped.true (now.invariant.some site kept at) in
    let some =
    serves_same site kept first.old first.new then'.new door mid self now.self next.new.self now.served false refl refl so_far
    (c.in-Err.ensures.serves site kept) in
    subst (λ (end : ServingEnd). (stopped : Bool) × ServesSome site kept first.old then'.new whole self next.new.self end.served stopped × EndsSo c.args.count end stopped)
    (sym c.at_door-in-Err.ensures) (
      false,
      some,
      record { whole = λ e. absurd (true_false e); part = λ e. (c.loop-served-test.true, refl) },
    )

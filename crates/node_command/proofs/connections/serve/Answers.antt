use Rattle.std.proofs.Common.{◌≡◌, ◌∙◌, true, false, arith, refl, subst, sym}
use Rattle.desk_doors.specs.Passing.{door_sides}
use Rattle.desk_doors.proofs.Passing.{still_as}
use Rattle.node_desk.proofs.Kept.{keeps_more, keeps_same}
use Rattle.node_command.specs.Acting.{EndsSo, ServesSome}
use Rattle.node_command.proofs.Each.{room_for, serves_more, serves_none, serves_same}
use Rattle.serving_ends.specs.declared.serving_end.ServingEnd.{ServingEnd}
use Rattle.site_run.specs.Outside.{disk_kind, disks_of}
use Rattle.node_command.proofs.connections.serve.Goals as goal

true_false : true ≡ false → ⊥
true_false e = cc

pub returns-in_default-clause-serves : goal.returns-in_default-clause-serves
returns-in_default-clause-serves g c site panel kept runs =
    let kind = disk_kind g.D.Disk.honest g.D.Disk.images g.D.Disk.moment g.D.Disk.left_since in
    let run = c.args.desk.now.run in
    let disks = disks_of g.D.Disk.honest g.D.Disk.images g.D.Disk.moment g.D.Disk.left_since c.args.disk.now c.args.disk.now in
    let door = door_sides g.G.Door.waiting g.G.Door.handed c.args.door.now c.start.new.self in
    let handed = still_as (g.G.Door.handed c.args.door.now) (g.G.Door.handed c.start.new.self) c.start.ensures.handed in
    subst (λ (end : ServingEnd). ServesSome site panel kept disks door run run end.served × EndsSo c.args.count end) (sym c.at_door.ensures) (
      serves_none site panel kept kind c.args.disk.now door run c.start.ensures.waiting handed runs,
      record { whole = λ e. absurd (true_false e); part = λ e. c.requires.count.0 },
    )

pub loop-served-init : goal.loop-served-init
loop-served-init g c =
    let kind = disk_kind g.D.Disk.honest g.D.Disk.images g.D.Disk.moment g.D.Disk.left_since in
    let door = door_sides g.G.Door.waiting g.G.Door.handed c.args.door.now c.start.new.self in
    let handed = still_as (g.G.Door.handed c.args.door.now) (g.G.Door.handed c.start.new.self) c.start.ensures.handed in
    let run = c.args.desk.now.run in
    record {
      digest = refl;
      within = omega arith;
      out = c.start.ensures.out ∙ c.requires.out;
      faults = c.start.ensures.cause.later;
      disk = keeps_same g.D.Disk.honest g.D.Disk.images g.D.Disk.faults c.args.disk.now run run refl refl c.requires.stands;
      some = λ site panel kept runs. serves_none site panel kept kind c.args.disk.now door run c.start.ensures.waiting handed runs;
    }

pub loop-served-preserved : goal.loop-served-preserved
loop-served-preserved g c =
    let kind = disk_kind g.D.Disk.honest g.D.Disk.images g.D.Disk.moment g.D.Disk.left_since in
    let inv = c.loop-served.invariant in
    let next = c.serve_next in
    let now = c.loop-served in
    let first = c.args.desk.now.run in
    let disks = disks_of g.D.Disk.honest g.D.Disk.images g.D.Disk.moment g.D.Disk.left_since c.args.disk.now now.disk in
    let door = door_sides g.G.Door.waiting g.G.Door.handed c.args.door.now now.door in
    let mid = door_sides g.G.Door.waiting g.G.Door.handed now.door next.new.door in
    record {
      digest = next.ensures.digest ∙ inv.digest;
      within = (let less = c.loop-served-test.true in omega (arith, less));
      out = next.ensures.out;
      faults = (let one = inv.faults in let other = next.ensures.cause.later in omega (arith, one, other));
      disk = keeps_more g.D.Disk.honest g.D.Disk.images g.D.Disk.faults c.args.disk.now now.disk next.new.disk first now.desk.run next.new.desk.run inv.disk
          next.ensures.disk;
      some = λ site panel kept runs.
          let so_far = inv.some site panel kept runs in
          let within = inv.within in
          let most = c.requires.count.1 in
          let room = room_for site panel kept kind disks door first now.desk.run now.served so_far (omega (arith, within, most)) in
          let one = c.in-Ok-serve_next.ensures.serves site panel kept so_far.history so_far.ticks so_far.runs room in
          serves_more site panel kept kind c.args.disk.now now.disk next.new.disk door mid first now.desk.run next.new.desk.run now.served c.in-Ok-serve_next.field-0
          refl refl inv.digest so_far one;
    }

pub serve_next-requires-clause-may : goal.serve_next-requires-clause-may
serve_next-requires-clause-may g c =
    let kind = disk_kind g.D.Disk.honest g.D.Disk.images g.D.Disk.moment g.D.Disk.left_since in
    let inv = c.loop-served.invariant in
    let now = c.loop-served in
    let first = c.args.desk.now.run in
    let opened = c.requires.opened in
    let disks = disks_of g.D.Disk.honest g.D.Disk.images g.D.Disk.moment g.D.Disk.left_since c.args.disk.now now.disk in
    let door = door_sides g.G.Door.waiting g.G.Door.handed c.args.door.now now.door in
    let so_far = inv.some opened.site opened.panel opened.kept opened.runs in
    let within = inv.within in
    let most = c.requires.count.1 in
    record {
      site = opened.site;
      panel = opened.panel;
      kept = opened.kept;
      history = so_far.history;
      ticks = so_far.ticks;
      runs = so_far.runs;
      room = room_for opened.site opened.panel opened.kept kind disks door first now.desk.run now.served so_far (omega (arith, within, most));
    }

pub returns-in-Err-clause-serves : goal.returns-in-Err-clause-serves
returns-in-Err-clause-serves g c site panel kept runs =
    let kind = disk_kind g.D.Disk.honest g.D.Disk.images g.D.Disk.moment g.D.Disk.left_since in
    let next = c.serve_next in
    let now = c.loop-served in
    let first = c.args.desk.now.run in
    let disks = disks_of g.D.Disk.honest g.D.Disk.images g.D.Disk.moment g.D.Disk.left_since c.args.disk.now next.new.disk in
    let door = door_sides g.G.Door.waiting g.G.Door.handed c.args.door.now now.door in
    let mid = door_sides g.G.Door.waiting g.G.Door.handed now.door next.new.door in
    let whole = door_sides g.G.Door.waiting g.G.Door.handed c.args.door.now next.new.door in
    subst (λ (end : ServingEnd). ServesSome site panel kept disks whole first next.new.desk.run end.served × EndsSo c.args.count end) (sym c.at_door-in-Err.ensures) (
      serves_same site panel kept kind c.args.disk.now now.disk next.new.disk door mid first now.desk.run next.new.desk.run now.served refl refl
          (now.invariant.some site panel kept runs) c.in-Err.ensures.serves,
      record { whole = λ e. absurd (true_false e); part = λ e. c.loop-served-test.true },
    )

pub returns-clause-serves : goal.returns-clause-serves
returns-clause-serves g c site panel kept runs =
    let now = c.loop-served in
    let first = c.args.desk.now.run in
    let disks = disks_of g.D.Disk.honest g.D.Disk.images g.D.Disk.moment g.D.Disk.left_since c.args.disk.now now.disk in
    let door = door_sides g.G.Door.waiting g.G.Door.handed c.args.door.now now.door in
    subst (λ (end : ServingEnd). ServesSome site panel kept disks door first now.desk.run end.served × EndsSo c.args.count end) (sym c.whole.ensures) (
      now.invariant.some site panel kept runs,
      record {
        whole = λ e. (let within = now.invariant.within in let past = c.loop-served-test.false in omega (arith, within, past));
        part = λ e. absurd (true_false (sym e));
      },
    )

use Rattle.std.proofs.Common.{◌≡◌, ◌≤◌, ◌-◌, false, []}
use Rattle.serve_command.specs.Acting.{IsAt, ServesSome, worlds_of}
use Rattle.desk_doors.specs.Passing.{door_sides}
use Rattle.site_run.specs.Disks.{KeepsOn}
use Rattle.site_types.specs.declared.retained.Retained.{Retained}
use Rattle.site_types.specs.declared.site.Site.{Site}
use Rattle.serve_command.proofs.counter.Counter.serve.Given as goal

-- so many connections were served, the last of them a stop or none
abbrev pub invariant-loop-served : goal.invariant-loop-served
invariant-loop-served g l =
    record {
      within : l.served ≤ l.count;
      out : g.G.Door.is_out l.door ≡ false;
      faults : g.G.Door.faults l.fn.door ≤ g.G.Door.faults l.door;
      disk : KeepsOn g.D.Disk.honest g.D.Disk.images g.D.Disk.faults l.fn.disk l.disk l.fn.self.run l.self.run;
      some : (site : Site) (kept : Retained) → IsAt site kept [] l.fn.self
          → ServesSome site kept {kind = (worlds_of g.D.Disk.honest g.D.Disk.images g.D.Disk.moment g.D.Disk.left_since g.R.Keeper.tables g.R.Keeper.faults
          l.fn.disk l.disk l.fn.keeper l.keeper).kind}
          (worlds_of g.D.Disk.honest g.D.Disk.images g.D.Disk.moment g.D.Disk.left_since g.R.Keeper.tables g.R.Keeper.faults l.fn.disk l.disk l.fn.keeper l.keeper).old
          (worlds_of g.D.Disk.honest g.D.Disk.images g.D.Disk.moment g.D.Disk.left_since g.R.Keeper.tables g.R.Keeper.faults l.fn.disk l.disk l.fn.keeper l.keeper).new
          (door_sides g.G.Door.waiting g.G.Door.handed l.fn.door l.door) l.fn.self l.self l.served l.stopped;
    }

abbrev pub decreases-loop-served : goal.decreases-loop-served
decreases-loop-served g l = l.count - l.served

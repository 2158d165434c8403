use Rattle.std.proofs.Common.{◌≡◌, ◌≤◌, ◌-◌, ℕ, false, []}
use Rattle.desk_doors.specs.Passing.{door_sides}
use Rattle.node_command.specs.Acting.{ServesSome}
use Rattle.node_desk.specs.Running.{KeepsOn}
use Rattle.node_desk.specs.Runs.{RunsFor}
use Rattle.site_run.specs.Outside.{disks_of}
use Rattle.site_types.specs.declared.retained.Retained.{Retained}
use Rattle.site_types.specs.declared.site.Site.{Site}
use Rattle.node_command.proofs.connections.serve.Given as goal

-- so many connections were served
abbrev pub invariant-loop-served : goal.invariant-loop-served
invariant-loop-served g l =
    record {
      digest : l.desk.run.node.digest ≡ l.fn.desk.run.node.digest;
      within : l.served ≤ l.count;
      out : g.G.Door.is_out l.door ≡ false;
      faults : g.G.Door.faults l.fn.door ≤ g.G.Door.faults l.door;
      disk : KeepsOn g.D.Disk.honest g.D.Disk.images g.D.Disk.faults l.fn.disk l.disk l.fn.desk.run l.desk.run;
      some : (site : Site) (panel : ℕ) (kept : Retained) → RunsFor site panel kept [] [] l.fn.desk.run
          → ServesSome site panel kept (disks_of g.D.Disk.honest g.D.Disk.images g.D.Disk.moment g.D.Disk.left_since l.fn.disk l.disk)
          (door_sides g.G.Door.waiting g.G.Door.handed l.fn.door l.door) l.fn.desk.run l.desk.run l.served;
    }

abbrev pub decreases-loop-served : goal.decreases-loop-served
decreases-loop-served g l = l.count - l.served

use Rattle.std.proofs.Common.{◌≤◌, ◌-◌}
use Rattle.std.specs.Prelude.{IfSome}
use Rattle.panel_edges.specs.Limits.{most_record_bytes}
use Rattle.site_types.specs.declared.retained.Retained.{Retained}
use Rattle.site_types.specs.declared.site.Site.{Site}
use Rattle.site_run.specs.Disks.{KeepsOn}
use Rattle.site_run.specs.Outside.{disks_of, outside_after, outside_before}
use Rattle.site_run.specs.Records.{at_beginning}
use Rattle.site_run.specs.Stands.{Stands}
use Rattle.panel_program.proofs.Pieces.{SoFar}
use Rattle.panel_program.proofs.Readings.{IsReading}
use Rattle.panel_program.proofs.reading.read_record.Given as goal

-- the bytes read so far neither ended the run nor are refused, and the text of their ticks was written
abbrev pub invariant-loop-read : goal.invariant-loop-read
invariant-loop-read g l =
    record {
      at : IsReading l.read l.reader l.run;
      few : l.read ≤ most_record_bytes;
      reads : g.S.Stream.read_faults l.fn.input ≤ g.S.Stream.read_faults l.input;
      writes : g.K.Stream.write_faults l.fn.out ≤ g.K.Stream.write_faults l.out;
      disk : KeepsOn g.D.Disk.honest g.D.Disk.images g.D.Disk.faults l.fn.disk l.disk l.fn.run l.run;
      so_far : (site : Site) (kept : Retained) → Stands site kept at_beginning l.fn.run
          → IfSome (g.S.Stream.left l.fn.input)
          (λ bytes. SoFar site kept bytes (g.S.Stream.left l.input)
          (outside_before (disks_of g.D.Disk.honest g.D.Disk.images g.D.Disk.moment g.D.Disk.left_since l.fn.disk l.disk) (g.K.Stream.written l.fn.out) l.fn.run)
          (outside_after (disks_of g.D.Disk.honest g.D.Disk.images g.D.Disk.moment g.D.Disk.left_since l.fn.disk l.disk) (g.K.Stream.written l.out) l.run) l.reader l.run l.read);
    }

abbrev pub decreases-loop-read : goal.decreases-loop-read
decreases-loop-read g l = most_record_bytes - l.read

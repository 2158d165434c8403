use Rattle.std.proofs.Common.{◌≤◌, ◌++◌, List, ℕ, length}
use Rattle.site_types.specs.declared.retained.Retained.{Retained}
use Rattle.site_types.specs.declared.site.Site.{Site}
use Rattle.site_run.specs.Disks.{KeepsOn}
use Rattle.site_run.specs.Outside.{disks_of, outside_after, outside_before}
use Rattle.site_run.specs.Records.{Progress}
use Rattle.panel_program.specs.Taking.{AreWithin, IsAt, MayPiece}
use Rattle.panel_program.proofs.Pieces.{Taking}
use Rattle.panel_program.proofs.reading.take_piece.Given as goal

-- a front of the piece was taken, and the run goes on
abbrev pub invariant-loop-rest : goal.invariant-loop-rest
invariant-loop-rest g l =
    record {
      at : MayPiece l.rest l.reader l.run;
      later : g.K.Stream.write_faults l.fn.out ≤ g.K.Stream.write_faults l.out;
      disk : KeepsOn g.D.Disk.honest g.D.Disk.images g.D.Disk.faults l.fn.disk l.disk l.fn.run l.run;
      so_far : (site : Site) (kept : Retained) (before : List ℕ) (p : Progress) → IsAt site kept before p l.fn.reader l.fn.run
          → AreWithin (before ++ l.piece)
          → Taking site kept p before l.piece l.rest
          (outside_before (disks_of g.D.Disk.honest g.D.Disk.images g.D.Disk.moment g.D.Disk.left_since l.fn.disk l.disk) (g.K.Stream.written l.fn.out) l.fn.run)
          (outside_after (disks_of g.D.Disk.honest g.D.Disk.images g.D.Disk.moment g.D.Disk.left_since l.fn.disk l.disk) (g.K.Stream.written l.out) l.run) l.reader l.run;
    }

abbrev pub decreases-loop-rest : goal.decreases-loop-rest
decreases-loop-rest g l = length l.rest

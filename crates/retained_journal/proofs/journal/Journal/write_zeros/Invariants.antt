use Rattle.std.proofs.Common.{◌≤◌}
use Rattle.std.specs.Prelude.{IfSome, ◌↔◌}
use Rattle.panel_edges.specs.Crashes.{LeavesOnly}
use Rattle.retained_journal.specs.Images.{HasRoom, HasZeros, OpensToKeptOrAttempt, Stands}
use Rattle.retained_journal.proofs.journal.Journal.write_zeros.Given as goal

abbrev pub invariant-loop-cell : goal.invariant-loop-cell
invariant-loop-cell g l =
    record {
      stands : Stands g.D.Disk.honest g.D.Disk.images l.disk l.self;
      zeros : g.D.Disk.honest l.disk → IfSome (g.D.Disk.seen l.disk) (HasZeros l.cell);
      moments : g.D.Disk.honest l.initial.disk → HasRoom l.self
          → LeavesOnly g.D.Disk.moment g.D.Disk.left_since l.initial.disk l.disk (OpensToKeptOrAttempt l.self);
      honest : g.D.Disk.honest l.disk ↔ g.D.Disk.honest l.initial.disk;
      later : g.D.Disk.faults l.initial.disk ≤ g.D.Disk.faults l.disk;
    }

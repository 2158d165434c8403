use Rattle.std.proofs.Common.{◌≡◌, ◌+◌, ◌≤◌, false}
use Rattle.std.specs.Prelude.{IfSome, ◌↔◌}
use Rattle.panel_edges.specs.Crashes.{LeavesOnly, Stays}
use Rattle.retained_journal.specs.Replays.{HasReplayed}
use Rattle.retained_journal.specs.Slots.{IsKeepable}
use Rattle.retained_journal.proofs.replay.Replay.read_cells.Given as goal

abbrev pub invariant-loop-cell : goal.invariant-loop-cell
invariant-loop-cell g l =
    record {
      replayed : IfSome (g.D.Disk.seen l.initial.disk) (λ file. HasReplayed file l.initial.self l.self l.cell);
      cells : l.self.cells ≡ l.cell;
      number : l.self.number ≡ l.initial.self.number + l.cell;
      wide : l.self.wide ≡ l.initial.self.wide;
      keeps : IsKeepable l.self.wide l.self.kept;
      shut : l.self.is_next_open ≡ false;
      seen : g.D.Disk.seen l.disk ≡ g.D.Disk.seen l.initial.disk;
      honest : g.D.Disk.honest l.disk ↔ g.D.Disk.honest l.initial.disk;
      crash : g.D.Disk.honest l.initial.disk → Stays (g.D.Disk.images l.initial.disk) (g.D.Disk.images l.disk);
      moments : g.D.Disk.honest l.initial.disk
          → LeavesOnly g.D.Disk.moment g.D.Disk.left_since l.initial.disk l.disk (g.D.Disk.images l.initial.disk);
      later : g.D.Disk.faults l.initial.disk ≤ g.D.Disk.faults l.disk;
    }

use Rattle.std.proofs.Common.{◌≤◌, ◌+◌}
use Rattle.panel_edges.specs.declared.memory_disk.MemoryDisk.{MemoryDisk}
use Rattle.panel_edges.specs.MemoryDisks.{images_of}
use Rattle.retained_journal.specs.Images.{Stands}
use Rattle.storage_trials.proofs.failing.commit_each.Given as goal

abbrev pub invariant-loop-commit : goal.invariant-loop-commit
invariant-loop-commit l =
    record {
      stands : Stands (λ (disk : MemoryDisk). Unit {0}) images_of l.disk l.journal;
      tried : l.journal.tried ≤ l.initial.journal.tried + l._commit;
    }

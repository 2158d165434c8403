use Rattle.std.proofs.Common.{◌≤◌, ◌+◌}
use Rattle.retained_journal.specs.Images.{Stands}
use Rattle.storage_trials.proofs.committing.count_entries.Given as goal

abbrev pub invariant-loop-time : goal.invariant-loop-time
invariant-loop-time g l =
    record {
      stands : Stands g.D.Disk.honest g.D.Disk.images l.disk l.journal;
      tried : l.journal.tried ≤ l.initial.journal.tried + l._time;
    }

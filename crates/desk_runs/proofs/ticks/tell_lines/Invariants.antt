use Rattle.std.proofs.Common.{◌≡◌, length}
use Rattle.desk_runs.proofs.Telling.{TellsSoFar}
use Rattle.desk_runs.proofs.ticks.tell_lines.Given as goal

-- the lines before those that are left were told
abbrev pub invariant-loop-left : goal.invariant-loop-left
invariant-loop-left l =
    record {
      told : TellsSoFar l.fn.rest l.initial.run l.left l.reader l.run;
      journal : l.run.journal ≡ l.initial.run.journal;
      failures : l.run.store_failures ≡ l.initial.run.store_failures;
    }

abbrev pub decreases-loop-left : goal.decreases-loop-left
decreases-loop-left l = length l.left

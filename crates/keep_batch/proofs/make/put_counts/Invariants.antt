use Rattle.std.proofs.Common.{◌≡◌, ◌++◌}
use Rattle.keep_batch.specs.Making.{counts_from}
use Rattle.keep_batch.proofs.make.put_counts.Given as goal

-- the counts of those before
abbrev pub invariant-loop-before : goal.invariant-loop-before
invariant-loop-before l = l.batch.items ≡ l.fn.batch.items ++ counts_from l.before l.entries

use Rattle.std.proofs.Common.{Bool, [], ◌∷◌, subst, sym, arith}
use Rattle.site_types.specs.declared.change.Change.TheVariants.{Count}
use Rattle.retained_journal.specs.Batches.{IsBatch}
use Rattle.storage_trials.proofs.committing.count_entries.Goals as goal

one_is_batch : (wide : Bool) → IsBatch wide (Count 1 1 ∷ [])
one_is_batch wide = record { some = omega arith; few = omega arith; keeps = (((omega arith, omega arith), tt), tt) }

pub commit-requires-clause-batch : goal.commit-requires-clause-batch
commit-requires-clause-batch g c = subst (IsBatch c.loop-time.journal.wide) (sym c.one_entry.ensures) (one_is_batch c.loop-time.journal.wide)

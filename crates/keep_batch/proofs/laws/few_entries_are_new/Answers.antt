use Rattle.keep_batch.proofs.NewEntries.{few_entries_are_new as law}
use Rattle.keep_batch.proofs.laws.few_entries_are_new.Goals as goal

pub returns : goal.returns
returns c = law

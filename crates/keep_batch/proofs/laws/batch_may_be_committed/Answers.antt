use Rattle.keep_batch.proofs.Committing.{batch_may_be_committed as law}
use Rattle.keep_batch.proofs.laws.batch_may_be_committed.Goals as goal

pub returns : goal.returns
returns c = law

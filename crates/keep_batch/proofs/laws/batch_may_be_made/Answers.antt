use Rattle.keep_batch.proofs.Making.{batch_may_be_made as law}
use Rattle.keep_batch.proofs.laws.batch_may_be_made.Goals as goal

pub returns : goal.returns
returns c = law

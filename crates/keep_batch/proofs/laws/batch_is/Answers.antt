use Rattle.keep_batch.proofs.Making.{batch_is as law}
use Rattle.keep_batch.proofs.laws.batch_is.Goals as goal

pub returns : goal.returns
returns c = law

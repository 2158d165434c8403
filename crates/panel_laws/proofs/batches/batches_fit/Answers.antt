use Rattle.panel_laws.proofs.BatchesFit.{batches_fit as law}
use Rattle.panel_laws.proofs.batches.batches_fit.Goals as goal

pub returns : goal.returns
returns c = law

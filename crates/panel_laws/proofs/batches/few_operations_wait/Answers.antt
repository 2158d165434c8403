use Rattle.panel_laws.proofs.BatchesFit.{few_wait as law}
use Rattle.panel_laws.proofs.batches.few_operations_wait.Goals as goal

pub returns : goal.returns
returns c = law

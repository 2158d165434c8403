use Rattle.later_operations.proofs.Laws.{outputs as law}
use Rattle.later_operations.proofs.outputs.outputs_stay.Goals as goal

pub returns : goal.returns
returns c = law

use Rattle.later_operations.proofs.Laws.{faults as law}
use Rattle.later_operations.proofs.faults.faults_stay.Goals as goal

pub returns : goal.returns
returns c = law

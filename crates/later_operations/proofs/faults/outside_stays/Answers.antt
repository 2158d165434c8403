use Rattle.later_operations.proofs.Laws.{outside as law}
use Rattle.later_operations.proofs.faults.outside_stays.Goals as goal

pub returns : goal.returns
returns c = law

use Rattle.later_operations.proofs.Laws.{released as law}
use Rattle.later_operations.proofs.facts.released_stays.Goals as goal

pub returns : goal.returns
returns c = law

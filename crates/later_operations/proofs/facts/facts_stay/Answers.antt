use Rattle.later_operations.proofs.Laws.{facts as law}
use Rattle.later_operations.proofs.facts.facts_stay.Goals as goal

pub returns : goal.returns
returns c = law

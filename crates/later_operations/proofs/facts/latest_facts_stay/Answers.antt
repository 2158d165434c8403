use Rattle.later_operations.proofs.Laws.{latest_facts as law}
use Rattle.later_operations.proofs.facts.latest_facts_stay.Goals as goal

pub returns : goal.returns
returns c = law

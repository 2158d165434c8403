use Rattle.later_operations.proofs.Laws.{calls as law}
use Rattle.later_operations.proofs.calls.calls_stay.Goals as goal

pub returns : goal.returns
returns c = law

use Rattle.output_calls.proofs.Confirming.{unconfirmed as law}
use Rattle.output_calls.proofs.routing.unconfirmed_by_calls.Goals as goal

pub returns : goal.returns
returns c = law

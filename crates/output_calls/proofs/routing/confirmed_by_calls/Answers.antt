use Rattle.output_calls.proofs.Confirming.{confirmed as law}
use Rattle.output_calls.proofs.routing.confirmed_by_calls.Goals as goal

pub returns : goal.returns
returns c = law

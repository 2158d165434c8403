use Rattle.output_calls.proofs.Delaying.{through as law}
use Rattle.output_calls.proofs.delays.through_by_calls.Goals as goal

pub returns : goal.returns
returns c = law

use Rattle.run_text.proofs.FailuresCounted.{are_the_same as law}
use Rattle.run_text.proofs.failures.recorded_are_the_same.Goals as goal

pub returns : goal.returns
returns c = law

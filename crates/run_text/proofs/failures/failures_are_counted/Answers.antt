use Rattle.run_text.proofs.FailuresCounted.{are_counted as law}
use Rattle.run_text.proofs.failures.failures_are_counted.Goals as goal

pub returns : goal.returns
returns c = law

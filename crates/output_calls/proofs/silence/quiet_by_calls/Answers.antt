use Rattle.output_calls.proofs.Silencing.{quiet as quiet_by_rules}
use Rattle.output_calls.proofs.silence.quiet_by_calls.Goals as goal

pub returns : goal.returns
returns c = quiet_by_rules

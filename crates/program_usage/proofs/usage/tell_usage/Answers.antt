use Rattle.program_usage.specs.Usage.{usage_line}
use Rattle.program_usage.proofs.usage.tell_usage.Goals as goal

pub returns-clause-says : goal.returns-clause-says
unfolding usage_line
returns-clause-says g c = c.say.ensures.says

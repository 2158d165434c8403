use Rattle.step_laws.proofs.Counts.{no_step}
use Rattle.step_laws.proofs.unchanged_facts_take_no_step.Goals as goal

pub returns : goal.returns
returns c = no_step

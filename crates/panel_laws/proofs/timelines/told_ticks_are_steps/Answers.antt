use Rattle.panel_laws.proofs.Steps.{told_are_steps as law}
use Rattle.panel_laws.proofs.timelines.told_ticks_are_steps.Goals as goal

pub returns : goal.returns
returns c = law

use Rattle.panel_laws.proofs.Steps.{rise as law}
use Rattle.panel_laws.proofs.timelines.steps_rise.Goals as goal

pub returns : goal.returns
returns c = law

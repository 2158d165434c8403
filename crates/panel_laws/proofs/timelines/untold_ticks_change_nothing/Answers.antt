use Rattle.panel_laws.proofs.Steps.{untold_is_same as law}
use Rattle.panel_laws.proofs.timelines.untold_ticks_change_nothing.Goals as goal

pub returns : goal.returns
returns c = law

use Rattle.panel_laws.proofs.Solutions.{no_other}
use Rattle.panel_laws.proofs.markers.one_solution.Goals as goal

pub returns : goal.returns
returns c = no_other

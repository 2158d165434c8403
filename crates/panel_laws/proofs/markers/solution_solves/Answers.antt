use Rattle.panel_laws.proofs.Solutions.{solution_is}
use Rattle.panel_laws.proofs.markers.solution_solves.Goals as goal

pub returns : goal.returns
returns c = solution_is

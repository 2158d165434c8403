use Rattle.panel_laws.proofs.Accepted.{accepted as law}
use Rattle.panel_laws.proofs.other_deadlines.accepted_is_in_force.Goals as goal

pub returns : goal.returns
returns c = law

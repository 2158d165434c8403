use Rattle.panel_laws.proofs.OwnTick.{stands_again as law}
use Rattle.panel_laws.proofs.other_deadlines.stands_again.Goals as goal

pub returns : goal.returns
returns c = law

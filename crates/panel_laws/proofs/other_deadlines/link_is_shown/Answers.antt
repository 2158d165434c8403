use Rattle.panel_laws.proofs.OwnTick.{link_shown as law}
use Rattle.panel_laws.proofs.other_deadlines.link_is_shown.Goals as goal

pub returns : goal.returns
returns c = law

use Rattle.panel_laws.proofs.OwnTick.{piece_shown as law}
use Rattle.panel_laws.proofs.other_deadlines.piece_is_shown.Goals as goal

pub returns : goal.returns
returns c = law

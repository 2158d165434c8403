use Rattle.node_rules.proofs.ShownZones.{frames_shown}
use Rattle.node_rules.proofs.laws.frames_are_shown.Goals as goal

pub returns : goal.returns
returns c = frames_shown

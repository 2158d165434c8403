use Rattle.node_rules.proofs.LaterHanded.{handed_stays}
use Rattle.node_rules.proofs.laws.what_is_handed_stays.Goals as goal

pub returns : goal.returns
returns c = handed_stays

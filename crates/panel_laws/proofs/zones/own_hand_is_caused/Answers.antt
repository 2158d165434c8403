use Rattle.panel_rules.proofs.Deadlines.{own_hand_caused}
use Rattle.panel_laws.proofs.zones.own_hand_is_caused.Goals as goal

pub returns : goal.returns
returns c = own_hand_caused

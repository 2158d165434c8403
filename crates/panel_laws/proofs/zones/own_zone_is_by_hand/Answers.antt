use Rattle.panel_rules.proofs.Deadlines.{own_by_hand}
use Rattle.panel_laws.proofs.zones.own_zone_is_by_hand.Goals as goal

pub returns : goal.returns
returns c = own_by_hand

use Rattle.panel_rules.proofs.Deadlines.{own_caused}
use Rattle.panel_laws.proofs.zones.own_zone_is_caused.Goals as goal

pub returns : goal.returns
returns c = own_caused

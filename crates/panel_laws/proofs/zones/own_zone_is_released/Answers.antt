use Rattle.panel_rules.proofs.Deadlines.{own_released}
use Rattle.panel_laws.proofs.zones.own_zone_is_released.Goals as goal

pub returns : goal.returns
returns c = own_released

use Rattle.panel_rules.proofs.Deadlines.{own_shown}
use Rattle.panel_laws.proofs.zones.own_zone_is_shown.Goals as goal

pub returns : goal.returns
returns c = own_shown

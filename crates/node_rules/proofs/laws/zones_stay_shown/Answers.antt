use Rattle.node_rules.proofs.ShownZones.{zones_stay}
use Rattle.node_rules.proofs.laws.zones_stay_shown.Goals as goal

pub returns : goal.returns
returns c = zones_stay

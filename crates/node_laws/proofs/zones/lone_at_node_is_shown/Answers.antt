use Rattle.node_laws.proofs.OwnZones.{lone_shown}
use Rattle.node_laws.proofs.zones.lone_at_node_is_shown.Goals as goal

pub returns : goal.returns
returns c = lone_shown

use Rattle.node_laws.proofs.OwnZones.{due_shown}
use Rattle.node_laws.proofs.zones.due_at_node_is_shown.Goals as goal

pub returns : goal.returns
returns c = due_shown

use Rattle.node_laws.proofs.OwnZones.{shown_caused}
use Rattle.node_laws.proofs.zones.shown_at_node_is_caused.Goals as goal

pub returns : goal.returns
returns c = shown_caused

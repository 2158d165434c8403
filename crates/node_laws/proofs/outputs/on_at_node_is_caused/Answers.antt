use Rattle.node_laws.proofs.NodeCaused.{on_is_caused}
use Rattle.node_laws.proofs.outputs.on_at_node_is_caused.Goals as goal

pub returns : goal.returns
returns c = on_is_caused

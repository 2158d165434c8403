use Rattle.node_laws.proofs.NodeAsked.{asked_on}
use Rattle.node_laws.proofs.outputs.asked_at_node_is_on.Goals as goal

pub returns : goal.returns
returns c = asked_on

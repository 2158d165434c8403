use Rattle.node_laws.proofs.NodeDue.{due_on}
use Rattle.node_laws.proofs.outputs.due_at_node_is_on.Goals as goal

pub returns : goal.returns
returns c = due_on

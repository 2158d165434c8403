use Rattle.node_laws.proofs.NodeAsked.{kept_on}
use Rattle.node_laws.proofs.outputs.kept_throughout_is_on.Goals as goal

pub returns : goal.returns
returns c = kept_on

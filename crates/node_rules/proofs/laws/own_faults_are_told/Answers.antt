use Rattle.node_rules.proofs.OwnFaults.{own_told}
use Rattle.node_rules.proofs.laws.own_faults_are_told.Goals as goal

pub returns : goal.returns
returns c = own_told

use Rattle.panel_rules.proofs.FaultsTold.{faults_told as law}
use Rattle.panel_laws.proofs.outputs.faults_are_told.Goals as goal

pub returns : goal.returns
returns c = law

use Rattle.hold_calls.proofs.FaultsHeld.{faults_by_told as law}
use Rattle.hold_calls.proofs.faults.told_faults.Goals as goal

pub returns : goal.returns
returns c = law

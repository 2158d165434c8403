use Rattle.hold_calls.proofs.FaultsHeld.{faults_held as law}
use Rattle.hold_calls.proofs.faults.held_faults.Goals as goal

pub returns : goal.returns
returns c = law

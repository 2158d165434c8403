use Rattle.panel_laws.proofs.KeepFaults.{fails_by_the_disk as law}
use Rattle.panel_laws.proofs.storing.keep_fails_by_the_disk.Goals as goal

pub returns : goal.returns
returns c = law

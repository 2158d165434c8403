use Rattle.panel_laws.proofs.KeepFaults.{answers_tell as law}
use Rattle.panel_laws.proofs.storing.keep_answers_tell.Goals as goal

pub returns : goal.returns
returns c = law

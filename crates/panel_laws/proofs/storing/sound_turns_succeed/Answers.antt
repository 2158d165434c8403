use Rattle.panel_laws.proofs.KeepFaults.{sound_turn as law}
use Rattle.panel_laws.proofs.storing.sound_turns_succeed.Goals as goal

pub returns : goal.returns
returns c = law

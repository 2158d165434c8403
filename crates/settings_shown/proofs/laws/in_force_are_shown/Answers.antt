use Rattle.settings_shown.proofs.InForce.{in_force_shown as law}
use Rattle.settings_shown.proofs.laws.in_force_are_shown.Goals as goal

pub returns : goal.returns
returns c = law

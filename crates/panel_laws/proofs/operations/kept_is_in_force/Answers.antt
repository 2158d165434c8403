use Rattle.panel_laws.proofs.StoredSettings.{kept_in_force as law}
use Rattle.panel_laws.proofs.operations.kept_is_in_force.Goals as goal

pub returns : goal.returns
returns c = law

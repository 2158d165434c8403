use Rattle.site_types.proofs.KeptOperations.{kept_are_changes as law}
use Rattle.site_types.proofs.laws.kept_are_changes.Goals as goal

pub returns : goal.returns
returns c = law

use Rattle.panel_laws.proofs.ProfileRows.{signalled_on as law}
use Rattle.panel_laws.proofs.profile.signalled_output_is_on.Goals as goal

pub returns : goal.returns
returns c = law

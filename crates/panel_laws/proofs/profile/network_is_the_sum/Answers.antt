use Rattle.panel_laws.proofs.ProfileRows.{network_sum as law}
use Rattle.panel_laws.proofs.profile.network_is_the_sum.Goals as goal

pub returns : goal.returns
returns c = law

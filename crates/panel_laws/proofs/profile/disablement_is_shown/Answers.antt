use Rattle.panel_laws.proofs.ProfileRows.{disablement_shown as law}
use Rattle.panel_laws.proofs.profile.disablement_is_shown.Goals as goal

pub returns : goal.returns
returns c = law

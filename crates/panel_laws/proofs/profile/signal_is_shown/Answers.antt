use Rattle.panel_laws.proofs.ProfileRows.{signal_shown as law}
use Rattle.panel_laws.proofs.profile.signal_is_shown.Goals as goal

pub returns : goal.returns
returns c = law

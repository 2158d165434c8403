use Rattle.panel_laws.proofs.ProfileRows.{joined_shown as law}
use Rattle.panel_laws.proofs.profile.joined_panels_show.Goals as goal

pub returns : goal.returns
returns c = law

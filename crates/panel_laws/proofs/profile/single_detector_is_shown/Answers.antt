use Rattle.panel_laws.proofs.ProfileRows.{single_shown as law}
use Rattle.panel_laws.proofs.profile.single_detector_is_shown.Goals as goal

pub returns : goal.returns
returns c = law

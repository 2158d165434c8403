use Rattle.panel_laws.proofs.FirstsShow.{lone_zone_shown as law}
use Rattle.panel_laws.proofs.faces.lone_zone_is_shown.Goals as goal

pub returns : goal.returns
returns c = law

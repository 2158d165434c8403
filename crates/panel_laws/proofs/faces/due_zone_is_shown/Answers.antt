use Rattle.panel_laws.proofs.FacesShow.{due_zone_shown as law}
use Rattle.panel_laws.proofs.faces.due_zone_is_shown.Goals as goal

pub returns : goal.returns
returns c = law

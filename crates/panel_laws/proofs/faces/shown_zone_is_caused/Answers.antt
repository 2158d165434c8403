use Rattle.panel_laws.proofs.FacesShow.{shown_zone_caused as law}
use Rattle.panel_laws.proofs.faces.shown_zone_is_caused.Goals as goal

pub returns : goal.returns
returns c = law

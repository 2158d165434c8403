use Rattle.panel_laws.proofs.FacesShow.{shown_output_caused as law}
use Rattle.panel_laws.proofs.faces.shown_output_is_caused.Goals as goal

pub returns : goal.returns
returns c = law

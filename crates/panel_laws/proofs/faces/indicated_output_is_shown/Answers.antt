use Rattle.panel_laws.proofs.IndicationsShow.{indicated_shown as law}
use Rattle.panel_laws.proofs.faces.indicated_output_is_shown.Goals as goal

pub returns : goal.returns
returns c = law

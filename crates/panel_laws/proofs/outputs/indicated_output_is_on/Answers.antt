use Rattle.panel_laws.proofs.OutputsOn.{indicated_on as law}
use Rattle.panel_laws.proofs.outputs.indicated_output_is_on.Goals as goal

pub returns : goal.returns
returns c = law

use Rattle.panel_laws.proofs.OutputsOn.{due_output_on as law}
use Rattle.panel_laws.proofs.outputs.due_output_is_on.Goals as goal

pub returns : goal.returns
returns c = law

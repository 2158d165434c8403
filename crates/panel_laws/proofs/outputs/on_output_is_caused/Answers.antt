use Rattle.panel_laws.proofs.OutputsOn.{on_output_caused as law}
use Rattle.panel_laws.proofs.outputs.on_output_is_caused.Goals as goal

pub returns : goal.returns
returns c = law

use Rattle.panel_laws.proofs.DueBySignal.{due_output_needs as law}
use Rattle.panel_laws.proofs.outputs.due_output_needs_a_signal.Goals as goal

pub returns : goal.returns
returns c = law

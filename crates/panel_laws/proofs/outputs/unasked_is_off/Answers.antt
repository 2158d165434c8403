use Rattle.panel_laws.proofs.Unasked.{unasked_is_off as law}
use Rattle.panel_laws.proofs.outputs.unasked_is_off.Goals as goal

pub returns : goal.returns
returns c = law

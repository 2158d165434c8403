use Rattle.panel_conditions.proofs.Tells.{missing_tells}
use Rattle.panel_conditions.proofs.laws.missing_tells.Goals as goal

pub returns : goal.returns
returns c = missing_tells

use Rattle.panel_core.proofs.Fronts.{fronts_hold}
use Rattle.panel_core.proofs.laws.fronts_hold_acknowledged.Goals as goal

pub returns : goal.returns
returns c = fronts_hold

use Rattle.panel_laws.proofs.FireTold.{fire_counted}
use Rattle.panel_laws.proofs.faces.fire_is_counted.Goals as goal

pub returns : goal.returns
returns c = fire_counted

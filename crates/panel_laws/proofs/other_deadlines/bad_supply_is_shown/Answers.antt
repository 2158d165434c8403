use Rattle.panel_laws.proofs.Supplies.{bad_supply_shown as law}
use Rattle.panel_laws.proofs.other_deadlines.bad_supply_is_shown.Goals as goal

pub returns : goal.returns
returns c = law

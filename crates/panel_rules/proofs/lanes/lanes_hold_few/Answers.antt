use Rattle.panel_rules.proofs.LaneLaws.{hold_few}
use Rattle.panel_rules.proofs.lanes.lanes_hold_few.Goals as goal

pub returns : goal.returns
returns c = hold_few

use Rattle.panel_rules.proofs.LaneLaws.{keep_their_tick}
use Rattle.panel_rules.proofs.lanes.lanes_keep_their_tick.Goals as goal

pub returns : goal.returns
returns c = keep_their_tick

use Rattle.panel_rules.proofs.LaneLaws.{by_the_next_tick}
use Rattle.panel_rules.proofs.lanes.taken_by_the_next_tick.Goals as goal

pub returns : goal.returns
returns c = by_the_next_tick

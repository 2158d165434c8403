use Rattle.node_rules.proofs.QuietPoints.{quiet_panels}
use Rattle.node_rules.proofs.laws.quiet_panels_have_no_entries.Goals as goal

pub returns : goal.returns
returns c = quiet_panels

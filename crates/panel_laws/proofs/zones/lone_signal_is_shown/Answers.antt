use Rattle.panel_rules.proofs.Deadlines.{lone_shown}
use Rattle.panel_laws.proofs.zones.lone_signal_is_shown.Goals as goal

pub returns : goal.returns
returns c = lone_shown

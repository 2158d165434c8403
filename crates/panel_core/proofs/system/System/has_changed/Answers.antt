use Rattle.panel_core.proofs.Shows.{asked_member}
use Rattle.panel_core.proofs.system.System.has_changed.Goals as goal

pub returns-clause-same : goal.returns-clause-same
returns-clause-same c site kept moments h marked told =
    marked c.args.panel (asked_member site kept moments c.args.self.now c.args.panel c.requires h) told

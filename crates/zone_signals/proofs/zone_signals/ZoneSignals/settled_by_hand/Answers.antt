use Rattle.blocked_points.specs.Operations.{done_newest_first}
use Rattle.zone_signals.proofs.DueLeast.{due_by_hand}
use Rattle.zone_signals.proofs.zone_signals.ZoneSignals.settled_by_hand.Goals as goal

pub returns-clause-least : goal.returns-clause-least
returns-clause-least c site kept operations moments stands within = (c.zone-settled.ensures site kept operations moments stands within).by_hand

pub returns-clause-due : goal.returns-clause-due
returns-clause-due c site kept operations moments panel stands within =
    due_by_hand site kept (done_newest_first operations) moments c.args.zone panel c.zone-settled.result.by_hand
    (c.zone-settled.ensures site kept operations moments stands within).by_hand

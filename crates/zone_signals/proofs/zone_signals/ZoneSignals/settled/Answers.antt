use Rattle.std.proofs.Common.{subst, sym}
use Rattle.panel_rules.specs.Moments.{tick_of}
use Rattle.blocked_points.specs.Operations.{done_newest_first}
use Rattle.zone_signals.specs.Ended.{EndedSignals}
use Rattle.zone_signals.specs.Least.{IsLeastTick}
use Rattle.zone_signals.proofs.DueLeast.{due_by, least_signal}
use Rattle.zone_signals.proofs.zone_signals.ZoneSignals.settled.Goals as goal

pub returns-clause-least : goal.returns-clause-least
returns-clause-least c site kept operations moments stands within =
    let done = done_newest_first operations in
    let zone = c.args.zone in
    subst (IsLeastTick (EndedSignals site kept done moments zone (tick_of moments))) (sym c.signal.ensures)
    (least_signal site kept done moments zone (tick_of moments) c.zone-settled.result (c.zone-settled.ensures site kept operations moments stands within))

pub returns-clause-due : goal.returns-clause-due
returns-clause-due c site kept operations moments panel stands within =
    let done = done_newest_first operations in
    let zone = c.args.zone in
    due_by site kept done moments zone panel c.signal.result
    (subst (IsLeastTick (EndedSignals site kept done moments zone (tick_of moments))) (sym c.signal.ensures)
    (least_signal site kept done moments zone (tick_of moments) c.zone-settled.result (c.zone-settled.ensures site kept operations moments stands within)))

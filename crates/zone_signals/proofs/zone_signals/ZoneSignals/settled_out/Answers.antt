use Rattle.std.proofs.Common.{subst, sym}
use Rattle.panel_rules.specs.Moments.{tick_of}
use Rattle.blocked_points.specs.Operations.{done_newest_first}
use Rattle.zone_signals.specs.Ended.{EndedSignalsOut}
use Rattle.zone_signals.specs.Least.{IsLeastTick}
use Rattle.zone_signals.proofs.DueLeast.{due_out_by, least_out, least_release}
use Rattle.zone_signals.proofs.HeldRounds.{differ}
use Rattle.zone_signals.proofs.zone_signals.ZoneSignals.settled_out.Goals as goal

pub returns-then-waits_for_second-clause-least : goal.returns-then-waits_for_second-clause-least
returns-then-waits_for_second-clause-least c kept operations moments stands within =
    let site = c.args.site.now in
    let done = done_newest_first operations in
    let zone = c.args.zone in
    subst (IsLeastTick (EndedSignalsOut site kept done moments zone (tick_of moments))) (sym c.release.ensures)
    (least_release site kept done moments zone (tick_of moments) c.zone-settled.result
    (c.zone-settled.ensures site kept operations moments stands within) (c.waits_for_second.ensures.0 c.if-waits_for_second.true))

pub returns-then-waits_for_second-clause-due : goal.returns-then-waits_for_second-clause-due
returns-then-waits_for_second-clause-due c kept operations moments panel stands within =
    let site = c.args.site.now in
    let done = done_newest_first operations in
    let zone = c.args.zone in
    due_out_by site kept done moments zone panel c.release.result
    (subst (IsLeastTick (EndedSignalsOut site kept done moments zone (tick_of moments))) (sym c.release.ensures)
    (least_release site kept done moments zone (tick_of moments) c.zone-settled.result
    (c.zone-settled.ensures site kept operations moments stands within) (c.waits_for_second.ensures.0 c.if-waits_for_second.true)))

pub returns-else-waits_for_second-clause-least : goal.returns-else-waits_for_second-clause-least
returns-else-waits_for_second-clause-least c kept operations moments stands within =
    let site = c.args.site.now in
    let done = done_newest_first operations in
    let zone = c.args.zone in
    subst (IsLeastTick (EndedSignalsOut site kept done moments zone (tick_of moments))) (sym c.signal.ensures)
    (least_out site kept done moments zone (tick_of moments) c.zone-settled.result
    (c.zone-settled.ensures site kept operations moments stands within)
    (λ rule. differ c.waits_for_second.result (c.waits_for_second.ensures.1 rule) c.if-waits_for_second.false))

pub returns-else-waits_for_second-clause-due : goal.returns-else-waits_for_second-clause-due
returns-else-waits_for_second-clause-due c kept operations moments panel stands within =
    let site = c.args.site.now in
    let done = done_newest_first operations in
    let zone = c.args.zone in
    due_out_by site kept done moments zone panel c.signal.result
    (subst (IsLeastTick (EndedSignalsOut site kept done moments zone (tick_of moments))) (sym c.signal.ensures)
    (least_out site kept done moments zone (tick_of moments) c.zone-settled.result
    (c.zone-settled.ensures site kept operations moments stands within)
    (λ rule. differ c.waits_for_second.result (c.waits_for_second.ensures.1 rule) c.if-waits_for_second.false)))

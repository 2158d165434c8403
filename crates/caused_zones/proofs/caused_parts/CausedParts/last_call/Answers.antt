use Rattle.std.proofs.Common.{◌≡◌, ap, arith, get_or, length, subst}
use Rattle.blocked_points.specs.Operations.{done_newest_first}
use Rattle.panel_rules.specs.Caused.{IsCausedByHand}
use Rattle.panel_rules.specs.Moments.{moments}
use Rattle.caused_zones.specs.Causes.{last_caused, no_cause}
use Rattle.caused_zones.proofs.Taken.{last_told}
use Rattle.caused_zones.proofs.caused_parts.CausedParts.last_call.Goals as goal

pub returns : goal.returns
returns c site kept operations taken ticks stand less at =
    let value = c.deref.ensures.value in
    let size = ap length value in
    let zones = stand.hand_zones in
    last_told (IsCausedByHand site kept (done_newest_first operations) (moments ticks) c.args.zone) ticks c.args.now c.last_of.result
    (get_or c.args.self.now.by_hand.items c.args.zone no_cause) at
    (subst (λ xs. c.last_of.result ≡ last_caused c.args.now (get_or xs c.args.zone no_cause)) value
    (c.last_of.ensures no_cause (omega (arith, less, size, zones)))) (stand.hands_stand c.args.zone no_cause less).last

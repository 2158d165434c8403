use Rattle.std.proofs.Common.{◌≡◌, ◌+◌, ◌-◌, ◌≤◌, max, arith}
use Rattle.site_types.specs.Done.{floor_before}
use Rattle.zone_signals.proofs.SignalsEnd.{detectors_of, of_detectors}
use Rattle.zone_signals.proofs.signals.detectors_end.Goals as goal

pub returns : goal.returns
returns c verify type kept done moments known rows =
    let is = c.floor_of-floor.ensures c.args.known.now.site.now done c.args.known.now.tick rows type.inside in
    let early = c.too_early.ensures in
    let most = c.max-after.ensures in
    let after : c.max-after.result ≡ max (floor_before c.args.known.now.site.now c.args.zone c.args.known.now.tick done) (c.args.known.now.tick - (c.args.within + 2)) =
    omega (arith, is, early, most) in
    let one : 1 ≤ c.round_start-start.result = (let past = c.if-start-eq0.false in omega (arith, past)) in (
      λ held. detectors_of c.args.known.now.site.now kept done moments c.args.zone c.args.known.now.tick c.round_start-start.result known.told.some c.round_start-start.ensures
          verify c.args.within c.max-after.result one after type.rule ((c.two_held.ensures kept done moments known).0 held),
      λ signal. (c.two_held.ensures kept done moments known).1
          (of_detectors c.args.known.now.site.now kept done moments c.args.zone c.args.known.now.tick c.round_start-start.result known.told.some c.round_start-start.ensures
          verify c.args.within c.max-after.result after type.rule signal),
    )

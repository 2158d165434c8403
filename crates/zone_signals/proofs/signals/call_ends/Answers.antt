use Rattle.std.proofs.Common.{◌<◌, arith}
use Rattle.site_types.specs.Done.{floor_before}
use Rattle.zone_signals.proofs.SignalsEnd.{call_below, call_of, of_call}
use Rattle.zone_signals.proofs.signals.call_ends.Goals as goal

pub returns-then-floor-start : goal.returns-then-floor-start
returns-then-floor-start c within kept done moments known rows = (
  λ never. absurd (cc),
  λ signal. absurd
      (let low = call_below c.args.known.now.site.now kept done moments c.args.zone c.args.known.now.tick c.round_start-start.result known.told.some c.round_start-start.ensures signal in
      let is = c.floor_of-floor.ensures c.args.known.now.site.now done c.args.known.now.tick rows within in
      let past = c.if-floor-start.true in
      omega (arith, low, is, past)),
)

pub returns : goal.returns
returns c within kept done moments known rows =
    let is = c.floor_of-floor.ensures c.args.known.now.site.now done c.args.known.now.tick rows within in
    let past = c.if-floor-start.false in
    let below : floor_before c.args.known.now.site.now c.args.zone c.args.known.now.tick done < c.round_start-start.result = omega (arith, is, past) in (
      λ held. call_of c.args.known.now.site.now kept done moments c.args.zone c.args.known.now.tick c.round_start-start.result known.told.some c.round_start-start.ensures below
          ((c.one_held.ensures kept done moments known).0 held),
      λ signal. (c.one_held.ensures kept done moments known).1
          (of_call c.args.known.now.site.now kept done moments c.args.zone c.args.known.now.tick c.round_start-start.result known.told.some c.round_start-start.ensures signal),
    )

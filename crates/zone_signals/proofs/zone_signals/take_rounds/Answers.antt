use Rattle.std.proofs.Common.{◌<◌, ◌-◌, length, arith}
use Rattle.zone_signals.specs.Stands.{ZoneStands}
use Rattle.zone_signals.proofs.PartlyTaken.{all_taken, one_taken}
use Rattle.zone_signals.proofs.zone_signals.take_rounds.Goals as goal

pub loop-zone-preserved : goal.loop-zone-preserved
loop-zone-preserved c kept done moments known floors marked stand =
    let partly = c.loop-zone.invariant kept done moments known floors marked stand in
    let many = partly.many in
    let kept_length = c.loop-zone.auto.settled in
    let test = c.loop-zone-test.true in
    let inside : c.loop-zone.zone < length c.loop-zone.settled = omega (arith, kept_length, test) in
    one_taken (ZoneStands c.args.known.now.site.now kept done moments (c.args.known.now.tick - 1)) (ZoneStands c.args.known.now.site.now kept done moments c.args.known.now.tick)
    (length c.args.known.now.site.now.zones) c.loop-zone.zone c.loop-zone.settled _ c.zone_later.result inside
    (c.zone_later.ensures (omega (arith, many, inside)) kept done moments known floors marked) partly

pub returns : goal.returns
returns c kept done moments known floors marked stand =
    let partly = c.loop-zone.invariant kept done moments known floors marked stand in
    record {
      whole = partly.many;
      each = all_taken (ZoneStands c.args.known.now.site.now kept done moments (c.args.known.now.tick - 1)) (ZoneStands c.args.known.now.site.now kept done moments c.args.known.now.tick)
          (length c.args.known.now.site.now.zones) c.loop-zone.zone c.loop-zone.settled (omega arith) partly;
    }

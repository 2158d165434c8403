use Rattle.std.proofs.Common.{◌<◌, ◌∷◌, length, arith}
use Rattle.blocked_points.specs.Operations.{as_done}
use Rattle.zone_signals.specs.Floors.{RowStands}
use Rattle.zone_signals.proofs.PartlyTaken.{all_taken, one_taken}
use Rattle.zone_signals.proofs.floors.take_operation.Goals as goal

pub loop-zone-preserved : goal.loop-zone-preserved
loop-zone-preserved c before stand =
    let kept = c.loop-zone.auto.rows in
    let test = c.loop-zone-test.true in
    let inside : c.loop-zone.zone < length c.loop-zone.rows = omega (arith, kept, test) in
    one_taken (RowStands c.args.site.now before) (RowStands c.args.site.now (as_done c.args.done.now ∷ before)) (length c.args.site.now.zones) c.loop-zone.zone
    c.loop-zone.rows _ c.row_after.result inside (c.row_after.ensures before) (c.loop-zone.invariant before stand)

pub returns : goal.returns
returns c before stand =
    let partly = c.loop-zone.invariant before stand in
    record {
      whole = partly.many;
      each = all_taken (RowStands c.args.site.now before) (RowStands c.args.site.now (as_done c.args.done.now ∷ before)) (length c.args.site.now.zones)
          c.loop-zone.zone c.loop-zone.rows (omega arith) partly;
    }

use Rattle.std.proofs.Common.{◌*◌, arith}
use Rattle.retained_journal.proofs.WrittenSlots.{panel_more, points_written, same_more}
use Rattle.retained_journal.proofs.slot_bytes.put_points.Goals as goal

pub loop-panel-preserved : goal.loop-panel-preserved
loop-panel-preserved c =
    let panel = c.loop-panel.panel in
    let before = c.loop-panel.invariant in
    record {
      written =
          λ wide narrow. panel_more wide panel c.args.points.now c.loop-panel.slot c.put_panel.new.slot c.loop-panel-test.true
          c.put_panel.ensures.others (before.written wide narrow)
          (c.put_panel.ensures.points wide (narrow panel c.loop-panel-test.true));
      others = same_more 0 32 (4 * panel) 4 c.args.slot.now c.loop-panel.slot c.put_panel.new.slot (omega arith) (let h = c.loop-panel-test.true in
          omega (arith, h)) before.others c.put_panel.ensures.others;
    }

pub returns-clause-points : goal.returns-clause-points
returns-clause-points c wide narrow =
    points_written wide c.args.points.now c.loop-panel.slot c.told-points (λ k less. c.loop-panel.invariant.written wide narrow k (omega arith))

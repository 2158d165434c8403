use Rattle.told_operations.proofs.LineByLine.{after_end, after_event, after_order, after_tick}
use Rattle.told_operations.proofs.asking.asked_operations.Goals as goal
use Rattle.told_operations.proofs.asking.asked_operations.Goals.{in-Tick, in-Event+in_ok-keep_asked-in-Event, in-Order, in-End}

pub loop-place-preserved : goal.loop-place-preserved
loop-place-preserved c =
    let site = c.args.site.now in
    let lines = c.args.lines.now in
    let place = c.loop-place.place in
    let ticks = c.loop-place.ticks in
    let asked = c.loop-place.asked.items in
    let line = c.index-lines-place.result in
    let within = c.loop-place-test.true in
    let is = c.index-lines-place.is in
    let before = c.loop-place.invariant in
    elim c.match-lines-place.branch [
      | in-Tick w ↦ rw (w.ticks-is, w.asked-is) (after_tick site lines place ticks asked line within is before _ w.in-Tick.is)
      | in-Event+in_ok-keep_asked-in-Event w ↦
          rw (w.ticks-is, w.asked-is, w.in_ok-keep_asked-in-Event.ensures)
          (after_event site lines place ticks asked line within is before w.in-Event.event w.in-Event.is)
      | in-Order w ↦ rw (w.ticks-is, w.asked-is) (after_order site lines place ticks asked line within is before _ w.in-Order.is)
      | in-End w ↦ rw (w.ticks-is, w.asked-is) (after_end site lines place ticks asked line within is before w.in-End.is)
    ]

use Rattle.std.proofs.Common.{◌∙◌}
use Rattle.tick_events.proofs.Parting.{after_end, after_event, after_order, after_tick}
use Rattle.tick_events.proofs.tick_events.TickEvents.of_lines.Goals as goal
use Rattle.tick_events.proofs.tick_events.TickEvents.of_lines.Goals.{in-Tick+in_ok-push-in-Tick, in-Event+in_ok-put-in-Event, in-Order, in-End}

pub loop-place-preserved : goal.loop-place-preserved
loop-place-preserved c site =
    let lines = c.args.lines.now in
    let place = c.loop-place.place in
    let line = c.index-lines-place.result in
    let within = c.loop-place-test.true in
    let is = c.index-lines-place.is in
    let events = c.loop-place.events.items in
    let starts = c.loop-place.starts.items in
    let before = c.loop-place.invariant site in
    elim c.match-lines-place.branch [
      | in-Tick+in_ok-push-in-Tick w ↦
          rw (w.events-is, w.starts-is, w.in_ok-push-in-Tick.ensures.items)
          (after_tick site lines place line within is events starts before _ w.in-Tick.is w.len.result (w.len.ensures ∙ c.loop-place.events.ok.0))
      | in-Event+in_ok-put-in-Event w ↦
          rw (w.events-is, w.starts-is, w.in_ok-put-in-Event.ensures, w.befalling.ensures)
          (after_event site lines place line within is events starts before w.in-Event.event w.in-Event.is w.len-in-Event.result (w.len-in-Event.ensures ∙ c.loop-place.starts.ok.0))
      | in-Order w ↦ rw (w.events-is, w.starts-is) (after_order site lines place line within is events starts before _ w.in-Order.is)
      | in-End w ↦ rw (w.events-is, w.starts-is) (after_end site lines place line within is events starts before w.in-End.is)
    ]

use Rattle.std.proofs.Common.{sym, ◌∙◌}
use Rattle.signal_points.proofs.Sounds.{never, taken_all, taken_more}
use Rattle.signal_points.proofs.point_states.take_events.Goals as goal
use Rattle.signal_points.proofs.point_states.take_events.Goals.{then-is_of_field, else-is_of_field}

pub loop-event-preserved : goal.loop-event-preserved
loop-event-preserved c =
    taken_more c.args.site.now c.args.events.now c.loop-event.event-index c.event-item.result c.event-item.result c.loop-event.told c.is_of_field.result
    c.if-is_of_field.told c.args.field.now c.loop-event.field c.take.new.self c.loop-event-test.true c.loop-event.invariant c.event-item.is c.take.ensures
    c.is_of_field.ensures
    (λ h. elim c.if-is_of_field.branch [
      | then-is_of_field w ↦ absurd (never c.if-is_of_field.told w.told-is h)
      | else-is_of_field w ↦ (sym w.told-is ∙ h, w.if-is_of_field.false)
    ])

pub returns-clause-stands : goal.returns-clause-stands
returns-clause-stands c =
    (taken_all c.args.site.now c.args.events.now c.loop-event.event-index c.loop-event.told c.args.field.now c.loop-event.field c.loop-event-test.false
    c.loop-event.invariant).stands

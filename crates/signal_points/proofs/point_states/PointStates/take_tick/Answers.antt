use Rattle.signal_points.proofs.Sounds.{never}
use Rattle.signal_points.proofs.TicksTaken.{takes_tick}
use Rattle.signal_points.proofs.point_states.PointStates.take_tick.Goals as goal

pub returns-then-told : goal.returns-then-told
returns-then-told c =
    takes_tick c.args.site.now c.args.done.now c.args.now.0 c.args.events.now c.take_events-told.result c.tick-came.result c.take_events-told.result
    c.args.self.now c.take_events-told.new.field c.tick-came.new.self c.take_events-told.ensures.stands c.tick-came.ensures.stands
    c.take_events-told.ensures.same c.tick-came.ensures.same (λ h. absurd (never c.take_events-told.result c.if-told.true h))

pub returns-else-told : goal.returns-else-told
returns-else-told c =
    takes_tick c.args.site.now c.args.done.now c.args.now.0 c.args.events.now c.take_events-told.result c.tick-came.result c.tick-came.result
    c.args.self.now c.take_events-told.new.field c.tick-came.new.self c.take_events-told.ensures.stands c.tick-came.ensures.stands
    c.take_events-told.ensures.same c.tick-came.ensures.same (λ h. (c.if-told.false, h))

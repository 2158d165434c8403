use Rattle.std.proofs.Common.{◌∷◌}
use Rattle.signal_points.proofs.TicksTaken.{looked_stand, same_stand}
use Rattle.signal_points.proofs.signal_points.SignalPoints.take_tick.Goals as goal

pub returns-then-take_tick : goal.returns-then-take_tick
returns-then-take_tick c kept ticks tick next stands =
    let states = c.take_tick.ensures.stands kept ticks tick stands.states next in
    looked_stand c.args.site.now kept c.args.done.now tick ticks c.args.self.now c.take_tick.new.self stands states c.args.now.0 c.deref_mut.result.now
    c.look_at_each.new.runs next.0 c.deref_mut.ensures.value (c.look_at_each.ensures kept c.args.done.now (tick ∷ ticks) states)

pub returns-else-take_tick : goal.returns-else-take_tick
returns-else-take_tick c kept ticks tick next stands =
    same_stand c.args.site.now kept c.args.done.now tick ticks c.args.self.now c.take_tick.new.self stands
    (c.take_tick.ensures.stands kept ticks tick stands.states next)
    (c.take_tick.ensures.same c.if-take_tick.false kept ticks tick stands.states next)

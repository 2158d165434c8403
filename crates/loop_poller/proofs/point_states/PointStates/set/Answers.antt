use Rattle.std.proofs.Common.{◌<◌, ap, arith, length}
use Rattle.loop_poller.specs.PointSets.{tells_nothing, tells_alarm}
use Rattle.loop_poller.proofs.PointPlaces.{those_after}
use Rattle.loop_poller.proofs.point_states.PointStates.set.Goals as goal

pub invariant_of-self : goal.invariant_of-self
invariant_of-self c =
    let old = c.self.inside in
    let marked = c.self.invariant in
    let size = ap length c.self.view_is in
    let here = c.requires in
    let within : c.args.place < length old.states.items = omega (arith, size, here) in
    record {
      alarm = those_after tells_alarm old.states.items old.alarms c.set.new.self c.args.place c.args.state _ within marked.alarm c.set.ensures
          c.is_in_alarm.ensures;
      missing = those_after tells_nothing old.states.items old.gone c.set-2.new.self c.args.place c.args.state _ within marked.missing c.set-2.ensures
          c.is_gone.ensures;
    }

use Rattle.std.proofs.Common.{refl}
use Rattle.loop_poller.specs.PointSets.{tells_alarm, tells_nothing}
use Rattle.loop_poller.proofs.PointPlaces.{none_at_first}
use Rattle.loop_poller.proofs.point_states.PointStates.new.Goals as goal

pub invariant_of-result : goal.invariant_of-result
invariant_of-result c =
    let states = c.in_ok-states.states.items in
    let all = c.in_ok-states.ensures.items_if_clones_equal (λ y e. e) in
    record {
      alarm = none_at_first tells_alarm c.args.count states c.in_ok-alarms.alarms all refl c.in_ok-alarms.ensures;
      missing = none_at_first tells_nothing c.args.count states c.in_ok-gone.gone all refl c.in_ok-gone.ensures;
    }

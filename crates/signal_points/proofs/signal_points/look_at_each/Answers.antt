use Rattle.std.proofs.Common.{arith}
use Rattle.signal_points.specs.States.{signals_now}
use Rattle.signal_points.proofs.Looked.{looked_all, looked_more}
use Rattle.signal_points.proofs.signal_points.look_at_each.Goals as goal

pub loop-place-preserved : goal.loop-place-preserved
loop-place-preserved c kept operations ticks stands =
    let holds = λ (point : _). signals_now c.args.site.now kept operations ticks point in
    looked_more c.args.round c.args.now.0 holds c.args.runs.now c.loop-place.runs c.loop-place.place
    (c.loop-place.invariant kept operations ticks stands) (omega arith) c.after.result _ c.signals-holds.result
    (c.signals-holds.ensures kept operations ticks stands) c.after.ensures.value

pub returns : goal.returns
returns c kept operations ticks stands =
    looked_all c.args.round c.args.now.0 (λ point. signals_now c.args.site.now kept operations ticks point) c.args.runs.now c.loop-place.runs
    c.loop-place.place (omega arith) (c.loop-place.invariant kept operations ticks stands)

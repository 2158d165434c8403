use Rattle.std.proofs.Common.{length, sym}
use Rattle.panel_rules.specs.Moments.{moments}
use Rattle.signal_points.proofs.TicksTaken.{silent_is, sounding_is}
use Rattle.signal_points.proofs.point_states.PointStates.signals.Goals as goal

pub returns-then-sounds : goal.returns-then-sounds
returns-then-sounds c kept operations ticks stands =
    let at = sym c.in-Some.ensures in
    sounding_is c.args.site.now kept operations ticks c.args.place c.sounds.result
    (c.sounds.ensures (moments ticks) stands.valid at stands.field) c.blocks-then-sounds.result c.if-sounds.true
    (c.blocks-then-sounds.ensures c.args.site.now kept operations (length ticks) stands.valid at stands.blocked)

pub returns-else-sounds : goal.returns-else-sounds
returns-else-sounds c kept operations ticks stands =
    silent_is c.args.site.now kept operations ticks c.args.place c.sounds.result
    (c.sounds.ensures (moments ticks) stands.valid (sym c.in-Some.ensures) stands.field) c.if-sounds.false

use Rattle.std.proofs.Common.{take}
use Rattle.signal_points.proofs.Sounds.{AreTaken}
use Rattle.signal_points.proofs.point_states.take_events.Given as goal

abbrev pub invariant-loop-event : goal.invariant-loop-event
invariant-loop-event l = AreTaken l.site (take l.event-index l.events) l.told l.initial.field l.field

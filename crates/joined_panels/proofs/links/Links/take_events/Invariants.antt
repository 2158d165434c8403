use Rattle.std.proofs.Common.{take}
use Rattle.joined_panels.proofs.EventsTaken.{AreTold}
use Rattle.joined_panels.proofs.links.Links.take_events.Given as goal

abbrev pub invariant-loop-event : goal.invariant-loop-event
invariant-loop-event l = AreTold (take l.event-index l.events) l.told l.initial.self l.self

use Rattle.std.proofs.Common.{refl}
use Rattle.joined_panels.proofs.EventsTaken.{after_tick}
use Rattle.joined_panels.proofs.TicksTaken.{after_change, after_none}
use Rattle.joined_panels.proofs.joined_panels.JoinedPanels.take_tick.Goals as goal

pub returns-then-take_events : goal.returns-then-take_events
returns-then-take_events c site ticks tick stands next same =
    after_change site tick ticks c.args.self.now _ stands next refl c.take_events.ensures.panels
    (after_tick tick ticks c.args.self.now.links c.take_events.new.self c.args.events.now same c.take_events.ensures.up stands.links)
    c.take_links.ensures

pub returns-else-take_events : goal.returns-else-take_events
returns-else-take_events c site ticks tick stands next same =
    after_none site tick ticks c.args.self.now _ stands next refl c.take_events.ensures.panels
    (after_tick tick ticks c.args.self.now.links c.take_events.new.self c.args.events.now same c.take_events.ensures.up stands.links)
    (c.take_events.ensures.silent c.if-take_events.false) refl

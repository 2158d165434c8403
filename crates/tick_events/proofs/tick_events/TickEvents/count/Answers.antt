use Rattle.std.proofs.Common.{◌∙◌}
use Rattle.tick_events.proofs.Parting.{starts_counted}
use Rattle.tick_events.proofs.tick_events.TickEvents.count.Goals as goal

pub returns : goal.returns
returns c ticks told =
    c.len.ensures ∙ c.args.self.now.starts.ok.0 ∙ starts_counted ticks c.args.self.now.events.items c.args.self.now.starts.items told

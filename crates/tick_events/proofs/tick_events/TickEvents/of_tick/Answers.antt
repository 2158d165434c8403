use Rattle.std.proofs.Common.{◌≡◌, ◌∙◌, ap, sym, subst, length, get_or, drop, take}
use Rattle.tick_events.specs.Told.{TellsEventsOfTick}
use Rattle.tick_events.proofs.Parting.{part_of, tick_told}
use Rattle.tick_events.proofs.tick_events.TickEvents.of_tick.Goals as goal

pub returns : goal.returns
returns c ticks told low high =
    let events = c.args.self.now.events.items in
    let starts = c.args.self.now.starts.items in
    let tick = c.args.tick in
    let result : c.behind.result.now ≡ part_of events starts tick =
    c.behind.ensures ∙ ap (drop c.start-2.result) (c.front-before.ensures ∙ ap (take c.start.result) c.deref.ensures.value)
    ∙ ap (λ n. drop c.start-2.result (take n events)) c.start.ensures
    ∙ ap (λ n. drop n (take (get_or starts tick (length events)) events))
    (c.start-2.ensures ∙ ap (λ n. get_or starts n (length events)) c.saturating_sub.ensures) in
    subst (λ es. TellsEventsOfTick ticks tick es) (sym result) (tick_told ticks events starts told tick low high)

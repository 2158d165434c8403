use Rattle.plain_history.specs.Histories.{all_done}
use Rattle.plain_words.proofs.Enterings.{holds}
use Rattle.plain_words.proofs.entering.Entering.hold.Goals as goal

pub returns : goal.returns
returns c =
    λ own history stands ticks.
    let asks = c.in_ok-step.ensures own history stands.asks ticks in
    holds c.args.settings.now.site.now c.args.settings.now.kept.now (all_done c.args.settings.now.done.now) c.args.self.now c.step.new.self c.args.tick own c.in_ok-self.field-0 history _ _
    c.is_in_fire-was.result
    c.is_in_fire-is.result c.enters.result stands ticks asks (c.held.ensures c.args.settings.now.site.now own history stands.asks) c.is_in_fire-was.ensures
    (c.held-2.ensures c.args.settings.now.site.now own _ asks)
    c.is_in_fire-is.ensures c.enters.ensures c.in_ok-self.ensures

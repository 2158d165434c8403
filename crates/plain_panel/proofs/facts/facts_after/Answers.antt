use Rattle.plain_history.specs.Histories.{all_done, history}
use Rattle.plain_panel.proofs.facts.facts_after.Goals as goal

pub returns : goal.returns
returns c =
    let settings = c.args.settings.now in
    c.facts.ensures settings.site.now settings.kept.now (all_done settings.done.now) (history c.args.moments.now) c.requires.valid
    c.in_ok-state.ensures.network

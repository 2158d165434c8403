use Rattle.panel_effects.proofs.HeardFacts.{kept_tell}
use Rattle.panel_effects.proofs.effects.facts_heard.Goals as goal

pub returns : goal.returns
returns c = kept_tell c.args.ring.now c.args.panel c.facts.result.now c.requires c.facts.ensures

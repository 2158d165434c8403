use Rattle.panel_rules.proofs.RingWords.{newest_over_chains as law}
use Rattle.panel_laws.proofs.words.newest_over_chains.Goals as goal

pub returns : goal.returns
returns c = law

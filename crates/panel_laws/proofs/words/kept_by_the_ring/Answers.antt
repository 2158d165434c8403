use Rattle.panel_rules.proofs.RingWords.{kept_by_ring as law}
use Rattle.panel_laws.proofs.words.kept_by_the_ring.Goals as goal

pub returns : goal.returns
returns c = law

use Rattle.panel_laws.proofs.HeardWords.{kept_is_word as law}
use Rattle.panel_laws.proofs.words.kept_is_word.Goals as goal

pub returns : goal.returns
returns c = law

use Rattle.panel_laws.proofs.HeardWords.{heard_is_stamp as law}
use Rattle.panel_laws.proofs.words.heard_is_stamp.Goals as goal

pub returns : goal.returns
returns c = law

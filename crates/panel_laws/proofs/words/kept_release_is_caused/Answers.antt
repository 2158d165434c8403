use Rattle.panel_rules.proofs.Joined.{kept_release_caused}
use Rattle.panel_laws.proofs.words.kept_release_is_caused.Goals as goal

pub returns : goal.returns
returns c = kept_release_caused

use Rattle.panel_rules.proofs.Joined.{kept_hand_caused}
use Rattle.panel_laws.proofs.words.kept_hand_is_caused.Goals as goal

pub returns : goal.returns
returns c = kept_hand_caused

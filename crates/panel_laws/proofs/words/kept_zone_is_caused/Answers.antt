use Rattle.panel_rules.proofs.Joined.{kept_caused}
use Rattle.panel_laws.proofs.words.kept_zone_is_caused.Goals as goal

pub returns : goal.returns
returns c = kept_caused

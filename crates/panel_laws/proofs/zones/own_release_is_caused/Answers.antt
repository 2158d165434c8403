use Rattle.panel_rules.proofs.Deadlines.{own_release_caused}
use Rattle.panel_laws.proofs.zones.own_release_is_caused.Goals as goal

pub returns : goal.returns
returns c = own_release_caused

use Rattle.panel_laws.proofs.Away.{away_is_missing as law}
use Rattle.panel_laws.proofs.other_deadlines.away_is_missing.Goals as goal

pub returns : goal.returns
returns c = law

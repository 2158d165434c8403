use Rattle.panel_rules.proofs.Rounds.{asked_once}
use Rattle.panel_rules.proofs.records.asked_once_in_a_round.Goals as goal

pub returns : goal.returns
returns c = asked_once

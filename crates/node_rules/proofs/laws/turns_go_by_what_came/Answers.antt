use Rattle.node_rules.proofs.Parts.{turns_by_what_came}
use Rattle.node_rules.proofs.laws.turns_go_by_what_came.Goals as goal

pub returns : goal.returns
returns c = turns_by_what_came

use Rattle.cause_effect.specs.Changes.{DependsOnChanged}
use Rattle.cause_effect.proofs.Counted.{one_number}
use Rattle.cause_effect.proofs.laws.one_number_of_changes.Goals as goal

pub returns : goal.returns
returns c site before after m n = one_number (DependsOnChanged site before after) m n

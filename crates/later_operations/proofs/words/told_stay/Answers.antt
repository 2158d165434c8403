use Rattle.later_operations.proofs.Laws.{told as law}
use Rattle.later_operations.proofs.words.told_stay.Goals as goal

pub returns : goal.returns
returns c = law

use Rattle.later_operations.proofs.Laws.{words as law}
use Rattle.later_operations.proofs.words.words_stay.Goals as goal

pub returns : goal.returns
returns c = law

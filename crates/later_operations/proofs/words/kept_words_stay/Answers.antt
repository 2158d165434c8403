use Rattle.later_operations.proofs.Laws.{kept_words as law}
use Rattle.later_operations.proofs.words.kept_words_stay.Goals as goal

pub returns : goal.returns
returns c = law

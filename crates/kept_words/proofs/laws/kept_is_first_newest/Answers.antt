use Rattle.kept_words.proofs.FirstNewest.{kept_is_first}
use Rattle.kept_words.proofs.laws.kept_is_first_newest.Goals as goal

pub returns : goal.returns
returns c = kept_is_first

use Rattle.hold_calls.proofs.WordsHeld.{word_by_told as law}
use Rattle.hold_calls.proofs.words.told_word.Goals as goal

pub returns : goal.returns
returns c = law

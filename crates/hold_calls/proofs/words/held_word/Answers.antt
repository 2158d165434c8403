use Rattle.hold_calls.proofs.WordsHeld.{word_held as law}
use Rattle.hold_calls.proofs.words.held_word.Goals as goal

pub returns : goal.returns
returns c = law

use Rattle.node_laws.proofs.WordsThen.{by_words_kept}
use Rattle.node_laws.proofs.words.turns_go_by_words_kept.Goals as goal

pub returns : goal.returns
returns c = by_words_kept

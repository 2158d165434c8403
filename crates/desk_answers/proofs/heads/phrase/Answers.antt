use Rattle.desk_answers.proofs.Phrases.{phrase_short}
use Rattle.desk_answers.proofs.heads.phrase.Goals as goal

pub returns-clause-short : goal.returns-clause-short
returns-clause-short c = rw c.canonical_phrase.ensures (phrase_short c.args.status)

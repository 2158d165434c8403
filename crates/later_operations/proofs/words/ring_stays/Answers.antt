use Rattle.later_operations.proofs.Laws.{ring as ring_stays}
use Rattle.later_operations.proofs.words.ring_stays.Goals as goal

pub returns : goal.returns
returns c = ring_stays

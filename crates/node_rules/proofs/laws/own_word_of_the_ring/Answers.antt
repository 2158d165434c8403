use Rattle.node_rules.proofs.RingFaults.{own_word_in_ring}
use Rattle.node_rules.proofs.laws.own_word_of_the_ring.Goals as goal

pub returns : goal.returns
returns c = own_word_in_ring

use Rattle.panel_laws.proofs.RunRows.{goes_slowly as law}
use Rattle.panel_laws.proofs.examples.words_of_a_long_ring.Goals as goal

pub returns : goal.returns
returns c = law

use Rattle.node_rules.proofs.RingFaces.{face_in_ring}
use Rattle.node_rules.proofs.laws.face_of_the_ring.Goals as goal

pub returns : goal.returns
returns c = face_in_ring

use Rattle.node_rules.proofs.RingFrames.{ring_frames}
use Rattle.node_rules.proofs.laws.frames_of_the_ring.Goals as goal

pub returns : goal.returns
returns c = ring_frames

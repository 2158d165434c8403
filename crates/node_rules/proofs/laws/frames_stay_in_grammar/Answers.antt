use Rattle.node_rules.proofs.OwnFrames.{own_frames}
use Rattle.node_rules.proofs.laws.frames_stay_in_grammar.Goals as goal

pub returns : goal.returns
returns c = own_frames

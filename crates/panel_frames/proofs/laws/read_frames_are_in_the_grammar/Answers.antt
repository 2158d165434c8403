use Rattle.panel_frames.proofs.ReadFrames.{read_frame_is}
use Rattle.panel_frames.proofs.laws.read_frames_are_in_the_grammar.Goals as goal

pub returns : goal.returns
returns c site digest at bytes frame are ok = read_frame_is site digest at bytes frame are ok

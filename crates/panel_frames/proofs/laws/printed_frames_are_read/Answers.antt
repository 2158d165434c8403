use Rattle.panel_frames.proofs.PrintedFrames.{printed_frames_again}
use Rattle.panel_frames.proofs.laws.printed_frames_are_read.Goals as goal

pub returns : goal.returns
returns c site digest at frame size is = printed_frames_again site digest at frame size is

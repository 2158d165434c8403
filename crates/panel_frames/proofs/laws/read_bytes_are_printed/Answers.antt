use Rattle.panel_frames.proofs.Taken.{read_bytes_again}
use Rattle.panel_frames.proofs.laws.read_bytes_are_printed.Goals as goal

pub returns : goal.returns
returns c site digest at bytes frame are ok = read_bytes_again site digest at bytes frame are ok

use Rattle.std.proofs.Common.{◌∷◌}
use Rattle.loop_poller.specs.Calls.{Cabled}
use Rattle.part_trials.proofs.polling.cable.Goals as goal

pub returns : goal.returns
returns c = (Cabled c.args.line c.args.piece c.args.state ∷ c.requires.0, c.set_piece.ensures _ 1 c.requires.0 c.requires.1)

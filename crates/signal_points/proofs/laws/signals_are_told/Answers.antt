use Rattle.signal_points.proofs.Tests.{signals_told}
use Rattle.signal_points.proofs.laws.signals_are_told.Goals as goal

pub returns : goal.returns
returns c = signals_told

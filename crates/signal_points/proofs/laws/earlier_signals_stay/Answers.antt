use Rattle.signal_points.proofs.Tests.{earlier_signals}
use Rattle.signal_points.proofs.laws.earlier_signals_stay.Goals as goal

pub returns : goal.returns
returns c = earlier_signals

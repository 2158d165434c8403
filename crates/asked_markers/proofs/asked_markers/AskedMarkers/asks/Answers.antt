use Rattle.std.proofs.Common.{◌∙◌}
use Rattle.asked_markers.proofs.Solving.{asks_as_told}
use Rattle.asked_markers.proofs.asked_markers.AskedMarkers.asks.Goals as goal

pub returns : goal.returns
returns c site masks place valid free at goes =
    c.is_true.ensures ∙ asks_as_told site masks place c.args.output.now c.args.self.now valid free at goes

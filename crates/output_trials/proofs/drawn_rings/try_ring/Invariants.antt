use Rattle.std.proofs.Common.{◌≡◌}
use Rattle.output_trials.proofs.drawn_rings.try_ring.Given as goal

abbrev pub invariant-loop-tick : goal.invariant-loop-tick
invariant-loop-tick l = l.ring.panels ≡ l.panels

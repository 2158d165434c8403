use Rattle.std.proofs.Common.{◌≡◌}
use Rattle.base_trials.proofs.rings.turn_ring.Given as goal

abbrev pub invariant-loop-tick : goal.invariant-loop-tick
invariant-loop-tick l = l.ring.panels ≡ l.turns.panels

use Rattle.std.proofs.Common.{◌≡◌}
use Rattle.base_trials.proofs.rings.turn_each.Given as goal

abbrev pub invariant-loop-turn : goal.invariant-loop-turn
invariant-loop-turn l = l.ring.panels ≡ l.turns.panels

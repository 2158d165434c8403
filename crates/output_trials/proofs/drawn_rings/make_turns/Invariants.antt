use Rattle.std.proofs.Common.{◌≡◌}
use Rattle.output_trials.proofs.drawn_rings.make_turns.Given as goal

abbrev pub invariant-loop-turn : goal.invariant-loop-turn
invariant-loop-turn l = l.ring.panels ≡ l.panels

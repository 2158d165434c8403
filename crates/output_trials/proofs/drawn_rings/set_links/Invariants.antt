use Rattle.std.proofs.Common.{◌≡◌}
use Rattle.output_trials.proofs.drawn_rings.set_links.Given as goal

abbrev pub invariant-loop-link : goal.invariant-loop-link
invariant-loop-link l = l.ring.panels ≡ l.panels

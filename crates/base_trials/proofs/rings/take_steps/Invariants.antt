use Rattle.std.proofs.Common.{◌≡◌}
use Rattle.base_trials.proofs.rings.take_steps.Given as goal

abbrev pub invariant-loop-step : goal.invariant-loop-step
invariant-loop-step l = l.ring.panels ≡ l.initial.ring.panels

use Rattle.std.proofs.Common.{◌≡◌, ◌≤◌}
use Rattle.base_trials.proofs.ring_words.tell_words.Given as goal

abbrev pub invariant-loop-step : goal.invariant-loop-step
invariant-loop-step l = (l.ring.panels ≡ l.panels) × (1 ≤ l.panels) × (l.panels ≤ 8)

abbrev pub invariant-loop-panel : goal.invariant-loop-panel
invariant-loop-panel l = (1 ≤ l.panel) × (l.ring.panels ≡ l.panels) × (l.panels ≤ 8)

use Rattle.std.proofs.Common.{◌≡◌}
use Rattle.part_trials.proofs.holding.take_tick.Given as goal

abbrev pub invariant-loop-step : goal.invariant-loop-step
invariant-loop-step l = (l.findings.quota ≡ 32) × (l.findings.capacity ≡ 64)

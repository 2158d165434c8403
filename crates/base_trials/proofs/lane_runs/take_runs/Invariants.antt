use Rattle.std.proofs.Common.{◌≡◌}
use Rattle.base_trials.proofs.lane_runs.take_runs.Given as goal

abbrev pub invariant-loop-step : goal.invariant-loop-step
invariant-loop-step l = (l.lane.quota ≡ 32) × (l.lane.capacity ≡ 64)

-- What a look at each point makes of the runs.
use Rattle.std.specs.Prelude.{◌≡◌, ℕ, ◌<◌, Bool, List, length, slice_index_or}
use Rattle.point_runs.specs.declared.point_run.PointRun.{PointRun}
use Rattle.point_runs.specs.Runs.{run_after}

-- each run after one more tick, with whether its point signals in it
pub record AreRunsAfter (round tick : ℕ) (holds : ℕ → Bool) (old new : List PointRun) : Type 0 where
  pub size : length new ≡ length old
  pub each : (point : ℕ) (other : PointRun) → point < length old
      → slice_index_or new point other ≡ run_after round tick (holds point) (slice_index_or old point other)

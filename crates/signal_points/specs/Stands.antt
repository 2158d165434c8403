-- What is kept of the ticks that were taken, the newest first.
use Rattle.std.specs.Prelude.{◌≡◌, ℕ, ◌<◌, List, length, slice_index_or}
use Rattle.site_types.specs.declared.retained.Retained.{Retained}
use Rattle.site_types.specs.declared.site.Site.{Site}
use Rattle.site_types.specs.Profile.{round_of}
use Rattle.panel_rules.specs.Moments.{TickBlock, moments}
use Rattle.blocked_points.specs.declared.done_operation.DoneOperation.{DoneOperation}
use Rattle.blocked_points.specs.Operations.{done_newest_first}
use Rattle.point_runs.specs.declared.point_run.PointRun.{PointRun}
use Rattle.point_runs.specs.Runs.{RunStands}
use Rattle.signal_points.specs.declared.signal_points.SignalPoints.{SignalPoints}
use Rattle.signal_points.specs.Signalling.{signals_at}
use Rattle.signal_points.specs.States.{PointsStand}

-- for each point of the site the ticks at which it signals
pub record AreSignalRuns (site : Site) (kept : Retained) (operations : List DoneOperation) (ticks : List TickBlock)
    (runs : List PointRun) : Type 0 where
  pub size : length runs ≡ length site.points
  pub each : (point : ℕ) (other : PointRun) → point < length site.points
      → RunStands (signals_at site kept (done_newest_first operations) (moments ticks) point)
      (round_of site.format) (length ticks) (slice_index_or runs point other)

-- of all operations, the oldest first, those are in force that were done before the last tick
pub record StandsFor (site : Site) (kept : Retained) (operations : List DoneOperation) (ticks : List TickBlock)
    (signals : SignalPoints) : Type 0 where
  pub round : signals.round ≡ round_of site.format
  pub states : PointsStand site kept operations ticks signals.states
  pub runs : AreSignalRuns site kept operations ticks signals.runs.items

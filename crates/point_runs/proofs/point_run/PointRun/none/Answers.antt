use Rattle.point_runs.proofs.RunSteps.{none_yet}
use Rattle.point_runs.proofs.point_run.PointRun.none.Goals as goal

pub returns : goal.returns
returns c test round some first = none_yet test round 0 some first

use Rattle.panel_conditions.proofs.BlockRuns.{points_by_eights}
use Rattle.panel_conditions.proofs.points.Points.take_eights.Goals as goal

pub returns : goal.returns
returns c =
    points_by_eights c.args.block.now _ _ _ _ _ c.take_eight.ensures c.take_eight-2.ensures c.take_eight-3.ensures c.take_eight-4.ensures

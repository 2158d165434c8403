use Rattle.panel_conditions.proofs.BlockRuns.{points_again}
use Rattle.panel_conditions.proofs.points.Points.take_block.Goals as goal

pub returns-then-has_block : goal.returns-then-has_block
returns-then-has_block c = points_again c.args.block.now c.args.self.now (c.has_block.ensures c.if-has_block.true)

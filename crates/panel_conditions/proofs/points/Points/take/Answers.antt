use Rattle.panel_conditions.proofs.Watched.{points_again, points_more}
use Rattle.panel_conditions.proofs.points.Points.take.Goals as goal

pub returns-then-has-clause-watches : goal.returns-then-has-clause-watches
returns-then-has-clause-watches c site kept panel done taken h =
    points_again site kept panel done taken c.args.finding.now c.args.self.now (c.has.ensures c.if-has.true) h

pub returns-clause-watches : goal.returns-clause-watches
returns-clause-watches c site kept panel done taken h =
    points_more site kept panel done taken c.args.finding.now c.args.self.now c.put_missing.new.self c.mark.new.self c.put_missing.ensures
    c.mark.ensures h

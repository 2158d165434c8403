use Rattle.std.proofs.Common.{arith, ◌≤◌}
use Rattle.blocked_points.proofs.Steps.{goes_on}
use Rattle.blocked_points.proofs.blocked_points.BlockedPoints.tick.Goals as goal

pub returns-clause-stands : goal.returns-clause-stands
returns-clause-stands c site kept tick up stands =
    let from : c.args.self.now.in_force ≤ c.count_before-end.result = omega arith in
    goes_on site kept c.args.done.now tick c.args.now.0 c.count_before-end.result c.args.self.now c.take_each.new.settings stands up from
    c.count_before-end.ensures.within c.count_before-end.ensures.earlier c.count_before-end.ensures.later
    (c.take_each.ensures site kept from stands.settings)

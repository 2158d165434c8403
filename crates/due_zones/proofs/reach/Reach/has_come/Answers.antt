use Rattle.due_zones.proofs.Reached.{home_decides, round_decides}
use Rattle.due_zones.proofs.reach.Reach.has_come.Goals as goal

pub returns-then-here : goal.returns-then-here
returns-then-here c site kept done moments zone panel valid has =
    home_decides site kept done moments zone panel valid c.args.self.now has c.args.settled c.is_home-here.result c.if-here.true
    c.is_home-here.ensures

pub returns-else-here : goal.returns-else-here
returns-else-here c site kept done moments zone panel valid has =
    round_decides site kept done moments zone panel valid c.args.self.now has c.args.settled c.is_home-here.result c.came_round-there.result
    c.if-here.false c.is_home-here.ensures c.came_round-there.ensures

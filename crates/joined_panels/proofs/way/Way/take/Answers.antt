use Rattle.std.proofs.Common.{arith}
use Rattle.joined_panels.proofs.WaysKnown.{taken}
use Rattle.joined_panels.proofs.way.Way.take.Goals as goal

pub returns-then-up-self : goal.returns-then-up-self
returns-then-up-self c was_up before knows after is =
    taken was_up c.args.spread before c.args.self.now knows c.args.up c.args.now c.latest_window.result c.if-up-self.true after is
    (c.latest_window.ensures was_up before knows (omega (arith, after)) (omega (arith, after)))

use Rattle.std.proofs.Common.{arith}
use Rattle.std.proofs.lemmas.Bool.{le-leb, lt-leb}
use Rattle.isolators.proofs.Reached.{reach_is, by_ahead, by_behind}
use Rattle.isolators.proofs.loop_line.LoopLine.reach.Goals as goal

pub returns-then-reached_from_a : goal.returns-then-reached_from_a
returns-then-reached_from_a c plan cable stands within =
    by_ahead _ _ _ _ (reach_is plan cable c.args.self.now c.args.address stands c.requires within (omega arith)) c.if-not-self-begins.true
    (le-leb _ _ c.if-reached_from_a.true)

pub returns-else-reached_from_a : goal.returns-else-reached_from_a
returns-else-reached_from_a c plan cable stands within =
    by_behind _ _ _ _ (reach_is plan cable c.args.self.now c.args.address stands c.requires within (omega arith)) c.if-not-self-begins.true
    (lt-leb _ _ c.if-reached_from_a.false)

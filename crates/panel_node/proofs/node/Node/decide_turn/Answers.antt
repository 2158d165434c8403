use Rattle.tick_units.specs.declared.task.Task.TheVariants.{Decide}
use Rattle.panel_node.proofs.OwnTurns.{made_by_parts, parts_may_turn}
use Rattle.panel_node.proofs.node.Node.decide_turn.Goals as goal

pub decide_turn-requires : goal.decide_turn-requires
decide_turn-requires c = parts_may_turn Decide c.args.self.now c.requires

pub returns-clause-turn : goal.returns-clause-turn
returns-clause-turn c = made_by_parts Decide c.args.self.now c.decide_turn.new.self (λ e. cc) (λ e. cc) c.decide_turn.ensures

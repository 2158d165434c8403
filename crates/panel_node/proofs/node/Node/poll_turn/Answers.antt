use Rattle.tick_units.specs.declared.task.Task.TheVariants.{Poll}
use Rattle.panel_node.proofs.OwnTurns.{made_by_parts, parts_may_turn}
use Rattle.panel_node.proofs.node.Node.poll_turn.Goals as goal

pub poll_turn-requires : goal.poll_turn-requires
poll_turn-requires c = parts_may_turn Poll c.args.self.now c.requires

pub returns-clause-turn : goal.returns-clause-turn
returns-clause-turn c = made_by_parts Poll c.args.self.now c.poll_turn.new.self (λ e. cc) (λ e. cc) c.poll_turn.ensures

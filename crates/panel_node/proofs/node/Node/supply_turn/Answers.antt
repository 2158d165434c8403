use Rattle.tick_units.specs.declared.task.Task.TheVariants.{Supply}
use Rattle.panel_node.proofs.OwnTurns.{made_by_parts, parts_may_turn}
use Rattle.panel_node.proofs.node.Node.supply_turn.Goals as goal

pub supply_turn-requires : goal.supply_turn-requires
supply_turn-requires c = parts_may_turn Supply c.args.self.now c.requires

pub returns-clause-turn : goal.returns-clause-turn
returns-clause-turn c = made_by_parts Supply c.args.self.now c.supply_turn.new.self (λ e. cc) (λ e. cc) c.supply_turn.ensures

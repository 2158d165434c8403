use Rattle.node_rules.specs.Histories.{befallen}
use Rattle.panel_node.proofs.OwnTurns.{desk_can_turn, desk_turned}
use Rattle.panel_node.proofs.node.Node.desk_turn.Goals as goal

pub turn-requires : goal.turn-requires
turn-requires c = let r = c.requires in desk_can_turn r.site r.panel r.kept r.history c.args.self.now r.stands r.run

pub returns-clause-turn : goal.returns-clause-turn
returns-clause-turn c site panel kept history h run =
    desk_turned site panel kept history c.args.self.now h c.turn.new.self run (c.turn.ensures kept (befallen history))

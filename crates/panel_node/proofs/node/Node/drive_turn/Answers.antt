use Rattle.std.proofs.Common.{refl}
use Rattle.panel_node.proofs.OwnTurns.{drive_turned}
use Rattle.panel_node.proofs.node.Node.drive_turn.Goals as goal

pub returns-clause-turn : goal.returns-clause-turn
returns-clause-turn c site panel kept history h run = drive_turned site panel kept history c.args.self.now h _ c.drive_turn.new.self refl c.drive_turn.ensures

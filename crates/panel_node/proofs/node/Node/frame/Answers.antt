use Rattle.panel_node.proofs.Sent.{frame_is, frame_ok}
use Rattle.panel_node.proofs.node.Node.frame.Goals as goal

pub returns-clause-sent : goal.returns-clause-sent
returns-clause-sent c site panel kept history h run = frame_is site panel kept history c.args.self.now h c.frame.result c.frame.ensures

pub returns-clause-grammar : goal.returns-clause-grammar
returns-clause-grammar c site panel at kept history h run few next =
    frame_ok site panel kept history c.args.self.now h run c.frame.result c.frame.ensures at few next

use Rattle.std.proofs.Common.{◌∙◌, sym}
use Rattle.panel_node.proofs.Came.{frame_group, frame_sender, stands_framed}
use Rattle.panel_node.proofs.node.Node.receive.Goals as goal

pub receive-requires-clause-group : goal.receive-requires-clause-group
receive-requires-clause-group c = let r = c.requires in frame_group r.site r.panel c.args.frame.now r.framed

pub receive-requires-clause-sender : goal.receive-requires-clause-sender
receive-requires-clause-sender c = let r = c.requires in frame_sender r.site r.panel c.args.frame.now r.stands.valid r.stands.parts.member r.framed

pub returns-clause-takes : goal.returns-clause-takes
returns-clause-takes c site panel kept history h =
    let r = c.requires in
    stands_framed site panel kept history c.args.self.now c.args.frame.now h
    (rw (sym r.stands.same ∙ h.same, sym r.stands.own ∙ h.own) at r.framed)
    c.receive.new.self (c.receive.ensures site.panels panel _ h.words)

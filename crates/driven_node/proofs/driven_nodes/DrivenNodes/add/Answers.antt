use Rattle.std.proofs.Common.{All, subst, sym}
use Rattle.std.proofs.lemmas.List.Elements.{All-push}
use Rattle.driven_node.specs.Nodes.{IsDrivenNode}
use Rattle.driven_node.proofs.driven_nodes.DrivenNodes.add.Goals as goal

pub returns-in_err-push : goal.returns-in_err-push
returns-in_err-push c = subst (All IsDrivenNode) (sym c.in_err-push.ensures.items) c.requires.driven

pub returns : goal.returns
returns c = subst (All IsDrivenNode) (sym c.in_ok-push.ensures.items)
    (All-push IsDrivenNode c.args.self.now.nodes.items c.in_ok-own.own c.requires.driven c.in_ok-own.ensures)

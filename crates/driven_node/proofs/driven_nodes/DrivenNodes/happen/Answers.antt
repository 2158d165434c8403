use Rattle.std.proofs.lemmas.List.Elements.{All-set}
use Rattle.driven_node.specs.Nodes.{IsDrivenNode}
use Rattle.driven_node.proofs.driven_nodes.DrivenNodes.happen.Goals as goal

pub returns-in_err-happen : goal.returns-in_err-happen
returns-in_err-happen c =
    All-set IsDrivenNode c.loop-place.self.nodes.items c.loop-place.place c.happen.new.own c.happen.ensures c.loop-place.invariant

pub loop-place-preserved : goal.loop-place-preserved
loop-place-preserved c =
    All-set IsDrivenNode c.loop-place.self.nodes.items c.loop-place.place c.happen.new.own c.happen.ensures c.loop-place.invariant

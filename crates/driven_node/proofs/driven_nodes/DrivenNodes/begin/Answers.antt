use Rattle.std.proofs.lemmas.List.Elements.{All-set}
use Rattle.driven_node.specs.Nodes.{IsDrivenNode}
use Rattle.driven_node.proofs.driven_nodes.DrivenNodes.begin.Goals as goal

pub returns-in_err-begin : goal.returns-in_err-begin
returns-in_err-begin c =
    All-set IsDrivenNode c.loop-place.self.nodes.items c.loop-place.place c.begin.new.own c.begin.ensures c.loop-place.invariant

pub loop-place-preserved : goal.loop-place-preserved
loop-place-preserved c =
    All-set IsDrivenNode c.loop-place.self.nodes.items c.loop-place.place c.begin.new.own c.begin.ensures c.loop-place.invariant

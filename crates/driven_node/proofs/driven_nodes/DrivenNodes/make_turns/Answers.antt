use Rattle.std.proofs.lemmas.List.Elements.{All-set}
use Rattle.driven_node.specs.Nodes.{IsDrivenNode}
use Rattle.driven_node.proofs.driven_nodes.DrivenNodes.make_turns.Goals as goal

pub returns : goal.returns
returns c = All-set IsDrivenNode c.args.self.now.nodes.items c.in_ok-place.place c.make_turns.new.own c.make_turns.ensures c.requires

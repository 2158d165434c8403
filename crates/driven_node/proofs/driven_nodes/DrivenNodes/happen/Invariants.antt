use Rattle.std.proofs.Common.{All}
use Rattle.driven_node.specs.Nodes.{IsDrivenNode}
use Rattle.driven_node.proofs.driven_nodes.DrivenNodes.happen.Given as goal

abbrev pub invariant-loop-place : goal.invariant-loop-place
invariant-loop-place l = All IsDrivenNode l.self.nodes.items

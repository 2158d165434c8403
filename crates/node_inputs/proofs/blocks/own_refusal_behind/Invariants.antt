use Rattle.std.proofs.Common.{length}
use Rattle.node_inputs.proofs.OwnLines.{IsOwnRead}
use Rattle.node_inputs.proofs.blocks.own_refusal_behind.Given as goal

-- the lines before those that are left were read, and each of them is an event of the panel
abbrev pub invariant-loop-left : goal.invariant-loop-left
invariant-loop-left l = IsOwnRead l.site l.panel l.fn.rest l.left l.reader l.number

abbrev pub decreases-loop-left : goal.decreases-loop-left
decreases-loop-left l = length l.left

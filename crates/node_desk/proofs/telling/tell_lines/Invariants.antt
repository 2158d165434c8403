use Rattle.std.proofs.Common.{◌≡◌, length}
use Rattle.node_desk.proofs.LinesTold.{TellsSoFar}
use Rattle.node_desk.proofs.telling.tell_lines.Given as goal

-- the lines before those that are left were told
abbrev pub invariant-loop-left : goal.invariant-loop-left
invariant-loop-left l =
    record {
      told : TellsSoFar l.fn.rest l.initial.node l.left l.reader l.node;
      digest : l.node.digest ≡ l.initial.node.digest;
    }

abbrev pub decreases-loop-left : goal.decreases-loop-left
decreases-loop-left l = length l.left

use Rattle.std.proofs.Common.{◌≤◌, ◌+◌, length}
use Rattle.record_lines.proofs.named_points.place_of.Given as goal

-- the names that are looked at stand behind those that are known to stand before
abbrev pub invariant-loop-rest : goal.invariant-loop-rest
invariant-loop-rest l = l.before + length l.rest ≤ length l.names

abbrev pub decreases-loop-rest : goal.decreases-loop-rest
decreases-loop-rest l = length l.rest

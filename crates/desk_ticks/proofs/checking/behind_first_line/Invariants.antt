use Rattle.std.proofs.Common.{◌≡◌, drop}
use Rattle.desk_ticks.specs.Blocks.{behind_line}
use Rattle.desk_ticks.proofs.checking.behind_first_line.Given as goal

-- no line ends among the bytes before this place
abbrev pub invariant-loop-place : goal.invariant-loop-place
invariant-loop-place l = behind_line l.block ≡ behind_line (drop l.place l.block)

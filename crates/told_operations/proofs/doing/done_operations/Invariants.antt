use Rattle.std.proofs.Common.{◌≡◌, map, take}
use Rattle.blocked_points.specs.Operations.{as_done}
use Rattle.told_operations.specs.Doing.{done_in_steps}
use Rattle.told_operations.proofs.doing.done_operations.Given as goal

-- what the steps before a place say was done was put
abbrev pub invariant-loop-place : goal.invariant-loop-place
invariant-loop-place l = map as_done l.done.items ≡ done_in_steps l.asked (take l.place l.steps)

use Rattle.std.proofs.Common.{◌≡◌, ◌++◌, map, take}
use Rattle.blocked_points.specs.Operations.{as_done}
use Rattle.told_operations.specs.Doing.{done_by_answers}
use Rattle.told_operations.proofs.doing.keep_done.Given as goal

-- what the answers before a place say was done was put
abbrev pub invariant-loop-place : goal.invariant-loop-place
invariant-loop-place l =
    map as_done l.done.items ≡ map as_done l.initial.done.items ++ done_by_answers l.asked l.tick.0 (take l.place l.answers)

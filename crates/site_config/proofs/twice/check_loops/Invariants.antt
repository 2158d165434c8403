use Rattle.std.proofs.Common.{◌≡◌, ◌+◌, [], take, drop}
use Rattle.site_config.specs.Claims.{loop_twice}
use Rattle.site_config.proofs.twice.check_loops.Given as goal

abbrev pub invariant-loops : goal.invariant-loops
invariant-loops l = loop_twice (take l.index l.loops) (l.index + 1) (drop l.index l.loops) ≡ loop_twice [] 1 l.loops

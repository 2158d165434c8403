use Rattle.std.proofs.Common.{◌+◌, ◌-◌, ◌<◌}
use Rattle.coincidence.specs.PlainZones.{KnowsZone}
use Rattle.coincidence.proofs.Passed.{Passes}
use Rattle.coincidence.proofs.decide.Decide.take_changing.Given as goal

abbrev pub invariant-loop-left : goal.invariant-loop-left
invariant-loop-left l = record {
  passes : Passes l.initial.self l.self l.run l.initial.findings l.findings l.found l.left;
  fits : l.left < 256;
  known : KnowsZone l.run.first.stamp.0 l.self l.known;
}

abbrev pub decreases-loop-left : goal.decreases-loop-left
decreases-loop-left l = l.run.taken + l.run.count - (l.found.taken + l.found.count)

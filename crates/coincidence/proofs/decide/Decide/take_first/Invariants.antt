use Rattle.std.proofs.Common.{◌-◌}
use Rattle.coincidence.specs.ChangedBlocks.{AreHeardFrom, TakesFirst}
use Rattle.coincidence.specs.PlainZones.{KnowsZone}
use Rattle.coincidence.proofs.decide.Decide.take_first.Given as goal

abbrev pub invariant-loop-found : goal.invariant-loop-found
invariant-loop-found l = record {
  first : TakesFirst l.initial.self l.block l.found l.self;
  ahead : AreHeardFrom l.block l.found.count l.found;
  known : KnowsZone l.block.stamp.0 l.self l.known;
}

abbrev pub decreases-loop-found : goal.decreases-loop-found
decreases-loop-found l = 32 - l.found.count

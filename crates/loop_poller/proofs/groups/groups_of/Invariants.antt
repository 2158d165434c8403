use Rattle.std.proofs.Common.{◌≡◌, ◌/◌, length}
use Rattle.loop_poller.specs.Groups.{AreGroups}
use Rattle.loop_poller.proofs.groups.groups_of.Given as goal

abbrev pub invariant-loop-number : goal.invariant-loop-number
invariant-loop-number l = record {
  size : length l.groups.items ≡ length l.points / 8;
  groups : AreGroups l.points l.groups.items;
}

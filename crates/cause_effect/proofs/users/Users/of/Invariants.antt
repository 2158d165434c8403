use Rattle.std.proofs.Common.{◌≡◌, ◌≤◌, length}
use Rattle.cause_effect.specs.Users.{AreUsersFrom}
use Rattle.cause_effect.proofs.users.Users.of.Given as goal

abbrev pub invariant-loop-position : goal.invariant-loop-position
invariant-loop-position l = record {
  size : length l.sets.items ≡ 776;
  within : l.position ≤ length l.order;
  users : AreUsersFrom l.site l.order l.position l.sets.items;
}

abbrev pub decreases-loop-position : goal.decreases-loop-position
decreases-loop-position l = l.position

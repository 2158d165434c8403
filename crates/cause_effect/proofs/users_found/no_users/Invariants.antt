use Rattle.std.proofs.Common.{◌≡◌, ℕ, false, length}
use Rattle.cause_effect.specs.Users.{is_user}
use Rattle.cause_effect.proofs.users_found.no_users.Given as goal

abbrev pub invariant-loop-place : goal.invariant-loop-place
invariant-loop-place l = record {
  size : length l.sets.items ≡ l._place;
  none : (place m : ℕ) → is_user l.sets.items place m ≡ false;
}

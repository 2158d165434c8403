use Rattle.std.proofs.Common.{◌≡◌, ◌<◌, ℕ, true}
use Rattle.cause_effect.specs.Placed.{is_placed}
use Rattle.cause_effect.proofs.arranged.Arranged.first_left.Given as goal

abbrev pub invariant-loop-place : goal.invariant-loop-place
invariant-loop-place l = (m : ℕ) → m < l.place → is_placed l.self.placed m ≡ true

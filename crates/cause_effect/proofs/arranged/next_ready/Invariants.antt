use Rattle.std.proofs.Common.{◌≡◌, ◌<◌, ℕ, false}
use Rattle.cause_effect.specs.Placed.{is_placed, is_ready}
use Rattle.cause_effect.proofs.arranged.next_ready.Given as goal

abbrev pub invariant-loop-place : goal.invariant-loop-place
invariant-loop-place l = (m : ℕ) → m < l.place → is_placed l.placed m ≡ false → is_ready l.site l.placed m ≡ false

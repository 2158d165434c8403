use Rattle.std.proofs.Common.{◌<◌, ◌≤◌, ℕ, length}
use Rattle.std.specs.Prelude.{slice_index}
use Rattle.cause_effect.proofs.walk.place_of_least.Given as goal

abbrev pub invariant-loop-place : goal.invariant-loop-place
invariant-loop-place l = record {
  within : l.least < length l.round;
  least : (k : ℕ) → k < l.place → slice_index l.round l.least ≤ slice_index l.round k;
}

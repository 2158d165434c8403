use Rattle.std.proofs.Common.{◌≡◌, ℕ, ◌<◌, Some, slice_get}
use Rattle.answer_lanes.specs.Known.{in_none, place_in}
use Rattle.answer_lanes.proofs.block_set.are_free.Given as goal

abbrev pub invariant-loop-k : goal.invariant-loop-k
invariant-loop-k l = (k : ℕ) → k < l.k → slice_get l.numbers (place_in l.firsts k) ≡ Some in_none

use Rattle.std.proofs.Common.{◌≡◌, ◌<◌, ◌+◌, ℕ, false, length, slice_index_or}
use Rattle.plain_history.proofs.numbered.addresses_that.Given as goal

abbrev pub invariant-loop-bit : goal.invariant-loop-bit
invariant-loop-bit g l = (length l.flags ≡ 96) × ((k : ℕ) → k < l.bit → goal.F-post g l.test (l.past + k + 1) (slice_index_or l.flags k false))

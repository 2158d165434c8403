use Rattle.std.proofs.Common.{◌≡◌, ◌<◌, ◌+◌, ℕ, length}
use Rattle.std.specs.Prelude.{slice_index_or}
use Rattle.marker_table.proofs.readings.Readings.values.Given as goal

abbrev pub invariant-loop-place : goal.invariant-loop-place
invariant-loop-place l = record {
  size : length l.values.words ≡ 8;
  words : (k : ℕ) → k < l.place → slice_index_or l.self.words (17 + k) 0 ≡ slice_index_or l.values.words k 0;
}

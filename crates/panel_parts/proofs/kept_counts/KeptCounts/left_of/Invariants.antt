use Rattle.std.proofs.Common.{◌≡◌, ◌-◌, ◌<◌, ◌≤◌, ℕ, length}
use Rattle.std.specs.Prelude.{slice_index}
use Rattle.panel_parts.proofs.kept_counts.KeptCounts.left_of.Given as goal

-- those of the first places are taken off
abbrev pub invariant-loop-place : goal.invariant-loop-place
invariant-loop-place l = record {
  size : length l.left ≡ 8;
  first : (k : ℕ) → k < l.place → slice_index l.left k ≡ slice_index l.entries k - slice_index l.self.entries k;
  rest : (k : ℕ) → l.place ≤ k → slice_index l.left k ≡ slice_index l.entries k;
}

use Rattle.std.proofs.Common.{◌≡◌, ◌<◌, ℕ, [], length}
use Rattle.std.specs.Prelude.{slice_index_or}
use Rattle.site_types.specs.Done.{no_points}
use Rattle.site_run.proofs.sized.note_points.Given as goal

abbrev pub invariant-loop-place : goal.invariant-loop-place
invariant-loop-place l =
    record {
      loops : (k : ℕ) → k < l.place → length (slice_index_or l.points k no_points).loops ≡ 4;
      halves : (k m : ℕ) → k < l.place → m < 4 → length (slice_index_or (slice_index_or l.points k no_points).loops m []) ≡ 2;
    }

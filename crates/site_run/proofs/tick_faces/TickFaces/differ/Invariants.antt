use Rattle.std.proofs.Common.{◌≡◌, ◌<◌, ◌≤◌, ℕ, length, slice_get}
use Rattle.site_run.proofs.tick_faces.TickFaces.differ.Given as goal

-- the panels that were looked at show the same
abbrev pub invariant-loop-place : goal.invariant-loop-place
invariant-loop-place l =
    record {
      within : l.place ≤ length l.self.after.now;
      same : (k : ℕ) → k < l.place → slice_get l.self.before.now k ≡ slice_get l.self.after.now k;
    }

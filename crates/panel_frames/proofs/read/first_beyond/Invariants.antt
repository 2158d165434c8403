use Rattle.std.proofs.Common.{◌≡◌, ◌<◌, ℕ, false, slice_index}
use Rattle.panel_frames.specs.Refusals.{goes_beyond}
use Rattle.panel_frames.proofs.read.first_beyond.Given as goal

abbrev pub invariant-loop-place : goal.invariant-loop-place
invariant-loop-place l = (k : ℕ) → k < l.place → goes_beyond (slice_index l.bytes k, slice_index l.most k) ≡ false

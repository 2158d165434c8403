use Rattle.std.proofs.Common.{◌≡◌, ◌+◌, ◌<◌, ℕ, false, length, get_or}
use Rattle.output_drive.specs.Sounders.{is_numbered_sounder}
use Rattle.output_drive.proofs.sounders.sounders_of.Given as goal

abbrev pub invariant-loop-place : goal.invariant-loop-place
invariant-loop-place l = record {
  size : length l.sounders ≡ 32;
  flags : (k : ℕ) → k < l.place → get_or l.sounders k false ≡ is_numbered_sounder l.site l.panel (k + 1);
}

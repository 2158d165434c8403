use Rattle.std.proofs.Common.{◌≡◌, ℕ, ◌<◌, ◌&&◌, get_or}
use Rattle.std.specs.Prelude.{not}
use Rattle.site_types.specs.Bits.{has_bit, mask_of}
use Rattle.sounder_control.proofs.zones.is_within.Given as goal

abbrev pub invariant-loop-panel : goal.invariant-loop-panel
invariant-loop-panel l = (p : ℕ) → p < l.panel → mask_of 32 (λ k. has_bit (get_or l.zones p 0) k && not (has_bit (get_or l.others p 0) k)) ≡ 0

use Rattle.std.proofs.Common.{◌≡◌, ℕ, ◌<◌, get_or}
use Rattle.sounder_control.proofs.zones.is_empty.Given as goal

abbrev pub invariant-loop-panel : goal.invariant-loop-panel
invariant-loop-panel l = (p : ℕ) → p < l.panel → get_or l.zones p 0 ≡ 0

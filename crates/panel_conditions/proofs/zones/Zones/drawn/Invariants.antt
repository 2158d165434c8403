use Rattle.std.proofs.Common.{◌≡◌, ◌<◌, ◌^◌, ℕ, true, slice_get}
use Rattle.site_types.specs.Bits.{has_bit}
use Rattle.panel_conditions.specs.Parts.{watch_shows}
use Rattle.panel_conditions.proofs.Drawn.{new_but}
use Rattle.panel_conditions.proofs.zones.Zones.drawn.Given as goal

abbrev pub invariant-loop-left : goal.invariant-loop-left
invariant-loop-left l = record {
  fits : l.mask < 2 ^ 32;
  few : l.left < 2 ^ 32;
  among : (j : ℕ) → has_bit l.left j ≡ true → has_bit l.look j ≡ true;
  bits : (j : ℕ) → j < 32
      → has_bit l.mask j ≡ new_but l.left l.look j (watch_shows l.sign l.now.0 (slice_get l.self.watches.items j)) (has_bit l.before j);
}

abbrev pub decreases-loop-left : goal.decreases-loop-left
decreases-loop-left l = l.left

use Rattle.std.proofs.Common.{◌≡◌, ◌<◌, ◌^◌, ℕ, true, length, slice_get}
use Rattle.site_types.specs.Bits.{has_bit}
use Rattle.panel_conditions.specs.Parts.{told_finding, plain_told}
use Rattle.panel_conditions.specs.Stands.{AreNumbered}
use Rattle.panel_conditions.proofs.Drawn.{taken_but}
use Rattle.panel_conditions.proofs.zones.Zones.take_plain.Given as goal

abbrev pub invariant-loop-left : goal.invariant-loop-left
invariant-loop-left l = record {
  among : (i : ℕ) → has_bit l.left i ≡ true → has_bit l.zones i ≡ true;
  fits : l.left < 2 ^ 32;
  watches : AreNumbered l.initial.self.watches.items → (j : ℕ)
      → slice_get l.self.watches.items j ≡ taken_but l.left j (told_finding l.stamp (plain_told l.zones)) (slice_get l.initial.self.watches.items j);
  count : length l.self.watches.items ≡ length l.initial.self.watches.items;
  changed : l.self.changed ≡ l.initial.self.changed;
  signs : l.self.signs ≡ l.initial.self.signs;
  moved : l.self.moved ≡ l.initial.self.moved;
}

abbrev pub decreases-loop-left : goal.decreases-loop-left
decreases-loop-left l = l.left

use Rattle.std.proofs.Common.{◌≡◌, ◌==◌, ◌&&◌, ℕ, false, nat_le, nat_lt, if◌then◌else◌}
use Rattle.panel_links.specs.Changes.{KeepsZones}
use Rattle.panel_links.specs.Kept.{newest}
use Rattle.panel_links.specs.Stands.{HasPanel, kept_in}
use Rattle.panel_links.proofs.ring.Ring.take_newest.Given as goal

-- the words of the group up to a panel were taken
abbrev pub invariant-loop-of : goal.invariant-loop-of
invariant-loop-of l = record {
  panels : l.self.panels ≡ l.fn.self.panels;
  links : l.self.down ≡ l.fn.self.down;
  words : (a o : ℕ) → HasPanel l.fn.self a → HasPanel l.fn.self o → kept_in l.self a o
      ≡ (if (a == l.at) && (nat_le l.first o && nat_lt o l.of)
      then newest (newest (kept_in l.fn.self a o) (kept_in l.fn.self l.left o)) (kept_in l.fn.self l.right o)
      else kept_in l.fn.self a o);
  zones : l.differ ≡ false → KeepsZones l.fn.self l.at l.self;
  same : KeepsZones l.fn.self l.at l.self → l.differ ≡ false;
}

use Rattle.std.proofs.Common.{ℕ, ◌<◌, ◌≤◌}
use Rattle.panel_links.specs.Stands.{HasPanel, kept_in}
use Rattle.panel_links.proofs.ring.Ring.find_oldest.Given as goal

abbrev pub invariant-loop-of : goal.invariant-loop-of
invariant-loop-of l = (o : ℕ) → HasPanel l.self o → o < l.of → l.oldest ≤ (kept_in l.self l.panel o).stamp.0

use Rattle.std.proofs.Common.{◌-◌, nat_lt}
use Rattle.panel_links.specs.Stands.{kept_in}
use Rattle.panel_links.proofs.Growing.{HasFlags}
use Rattle.panel_links.proofs.ring.Ring.silent_by_word.Given as goal

abbrev pub invariant-loop-of : goal.invariant-loop-of
invariant-loop-of l = HasFlags (λ q. nat_lt l.limit (l.now.0 - (kept_in l.self l.panel q).stamp.0)) l.self.panels l.of l.silent

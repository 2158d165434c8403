use Rattle.std.proofs.Common.{◌≡◌}
use Rattle.node_trials.proofs.ring_beside.RingBeside.keep.Given as goal

abbrev pub invariant-loop-link : goal.invariant-loop-link
invariant-loop-link l = l.self.ring.panels ≡ l.initial.self.ring.panels

abbrev pub invariant-loop-link-2 : goal.invariant-loop-link-2
invariant-loop-link-2 l = l.self.ring.panels ≡ l.initial.self.ring.panels

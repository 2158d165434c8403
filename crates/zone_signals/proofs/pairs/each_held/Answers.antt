use Rattle.zone_signals.proofs.HeldRounds.{differ}
use Rattle.zone_signals.proofs.pairs.each_held.Goals as goal

pub returns-then-one_held : goal.returns-then-one_held
returns-then-one_held c kept done moments known = (
  λ held. record {
    one = (c.one_held.ensures kept done moments known).0 c.if-one_held.true;
    two = (c.one_held-then-one_held.ensures kept done moments known).0 held;
  },
  λ each. (c.one_held-then-one_held.ensures kept done moments known).1 each.two,
)

pub returns-else-one_held : goal.returns-else-one_held
returns-else-one_held c kept done moments known = (
  λ held. absurd (differ c.one_held.result held c.if-one_held.false),
  λ each. (c.one_held.ensures kept done moments known).1 each.one,
)

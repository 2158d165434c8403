use Rattle.std.proofs.Common.{sym, arith}
use Rattle.sounder_control.proofs.EveryZone.{all_clear, one_set}
use Rattle.sounder_control.proofs.zones.is_empty.Goals as goal

pub returns-then-mask-ne0 : goal.returns-then-mask-ne0
returns-then-mask-ne0 c =
    sym (one_set c.args.zones.now c.loop-panel.panel c.loop-panel-test.true (omega arith) c.if-mask-ne0.true)

pub returns : goal.returns
returns c = sym (all_clear c.args.zones.now (λ p small. c.loop-panel.invariant p (omega (arith, small))))

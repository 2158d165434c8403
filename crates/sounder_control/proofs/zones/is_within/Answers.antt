use Rattle.std.proofs.Common.{sym, ◌∙◌, arith}
use Rattle.sounder_control.proofs.EveryZone.{all_within, clear_more, one_outside}
use Rattle.sounder_control.proofs.zones.is_within.Goals as goal

pub returns-then-without_32-ne0 : goal.returns-then-without_32-ne0
returns-then-without_32-ne0 c =
    sym (one_outside c.args.zones.now c.args.others.now c.loop-panel.panel c.loop-panel-test.true (λ clear. c.if-without_32-ne0.true (c.without_32.ensures ∙ clear)))

pub loop-panel-preserved : goal.loop-panel-preserved
loop-panel-preserved c =
    clear_more c.args.zones.now c.args.others.now c.loop-panel.panel c.loop-panel.invariant (sym c.without_32.ensures ∙ c.if-without_32-ne0.false)

pub returns : goal.returns
returns c = sym (all_within c.args.zones.now c.args.others.now (λ p small. c.loop-panel.invariant p (omega (arith, small))))

use Rattle.std.proofs.Common.{sym, subst, take}
use Rattle.std.proofs.lemmas.List.{take_more}
use Rattle.cause_effect.specs.Placed.{LeastLeftIs}
use Rattle.cause_effect.proofs.terms.least_left.Goals as goal

pub loop-term-preserved : goal.loop-term-preserved
loop-term-preserved c =
    let terms = c.args.terms.now in
    let k = c.loop-term.term-index in
    subst (λ ts. LeastLeftIs c.args.placed.now ts c.lesser-least.result) (sym (take_more terms k _ c.loop-term-test.true))
    (c.lesser-least.ensures (take k terms) c.loop-term.invariant)

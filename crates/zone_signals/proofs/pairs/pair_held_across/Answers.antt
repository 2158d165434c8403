use Rattle.std.proofs.Common.{inl, inr, sym, ◌∙◌, subst}
use Rattle.std.proofs.lemmas.Option.{same_Some}
use Rattle.zone_signals.specs.Pairs.{HasOneOfEach}
use Rattle.zone_signals.proofs.HeldRounds.{differ}
use Rattle.zone_signals.proofs.pairs.pair_held_across.Goals as goal

pub returns-else-each_held : goal.returns-else-each_held
returns-else-each_held c kept done moments known = (
  λ held. record { other = _; is = c.in-Some.is; found = inr ((c.each_held-else-each_held.ensures kept done moments known).0 held) },
  λ across.
      elim across.found [
        | inl each ↦
            absurd
            (differ c.each_held.result ((c.each_held.ensures kept done moments known).1
            (subst (λ z. HasOneOfEach c.args.known.now.site.now kept done moments c.args.kind c.args.zone z c.args.both c.args.later c.args.known.now.tick)
            (same_Some across.other c.in-Some.other (sym across.is ∙ c.in-Some.is)) each)) c.if-each_held.false)
        | inr each ↦
            (c.each_held-else-each_held.ensures kept done moments known).1
            (subst (λ z. HasOneOfEach c.args.known.now.site.now kept done moments c.args.kind z c.args.zone c.args.both c.args.later c.args.known.now.tick)
            (same_Some across.other c.in-Some.other (sym across.is ∙ c.in-Some.is)) each)
      ],
)

use Rattle.std.proofs.Common.{◌≡◌, ◌∙◌, ◌+◌, [], ap, arith, length, subst, sym}
use Rattle.plain_words.specs.Enterings.{AllEnter, StandsForEntering}
use Rattle.plain_words.proofs.EnteringPanels.{enter_more, length_more}
use Rattle.plain_words.proofs.entering_panels.all_new.Goals as goal

pub loop-place-preserved : goal.loop-place-preserved
loop-place-preserved c =
    let xs = c.loop-place.panels.items in
    let x = c.in_ok-new.field-0 in
    let count : length xs ≡ c.loop-place.place = c.loop-place.invariant.count in
    let panel : c.loop-place.place + 1 ≡ 1 + length xs = omega (arith, count) in
    record {
      all = λ kept done.
          subst (λ ys. AllEnter c.args.site.now kept done [] 1 ys) (sym c.in_ok-push.ensures.items)
          (enter_more c.args.site.now kept done [] 1 xs x (c.loop-place.invariant.all kept done)
          (subst (λ n. StandsForEntering c.args.site.now kept done n [] x) panel (c.in_ok-new.ensures kept done)));
      count = ap length c.in_ok-push.ensures.items ∙ length_more xs x ∙ ap (λ n. n + 1) count;
    }

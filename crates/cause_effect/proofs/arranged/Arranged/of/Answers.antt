use Rattle.std.proofs.Common.{◌==◌, refl, sym, ap, ◌∙◌, arith, subst}
use Rattle.std.specs.List.{IsDistinct}
use Rattle.std.proofs.lemmas.Grind.{common_steps}
use Rattle.cause_effect.specs.Orders.{IsRising}
use Rattle.cause_effect.specs.Cycles.{is_among}
use Rattle.cause_effect.proofs.Placing.{few_of, same_placed, still_once, none_once, still_rising, none_rising}
use Rattle.cause_effect.proofs.Solving.{none_true}
use Rattle.cause_effect.proofs.arranged.Arranged.of.Goals as goal

pub loop-place-init : goal.loop-place-init
loop-place-init c = record {
  size = refl;
  same = λ m. none_true 256 m ∙ sym (ap (is_among m) c.in_ok-order.ensures.items);
  once = none_once c.in_ok-order.order.items c.in_ok-order.ensures.items;
  rising = none_rising c.args.site.now c.in_ok-order.order.items c.in_ok-order.ensures.items;
}

pub loop-place-preserved : goal.loop-place-preserved
loop-place-preserved c =
    let site = c.args.site.now in
    let placed = c.loop-place.placed in
    let order = c.loop-place.order.items in
    let x = c.in-Some.place in
    let next = c.in-Some.ensures in
    let size = c.loop-place.invariant.size in
    let few = few_of site c.requires in
    let within = next.within in
    let pushed = c.in_ok-push.ensures.items in
    record {
      size = grind (arith, common_steps, size);
      same = λ m. same_placed placed order x (omega (arith, size, few, within)) c.loop-place.invariant.same m ∙ sym (ap (is_among m) pushed);
      once =
          subst (IsDistinct (λ a b. a == b)) (sym pushed)
          (still_once placed order x c.loop-place.invariant.same c.loop-place.invariant.once next.fresh);
      rising =
          subst (IsRising site) (sym pushed) (still_rising site placed order x c.loop-place.invariant.same c.loop-place.invariant.rising next.ready);
    }

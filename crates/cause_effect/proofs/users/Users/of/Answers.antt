use Rattle.std.proofs.Common.{◌≡◌, ◌+◌, ◌-◌, ap, sym, subst, ◌∙◌, arith, get_or, length}
use Rattle.std.proofs.lemmas.Option.{slice_get-get_or}
use Rattle.cause_effect.specs.Users.{AreUsersFrom}
use Rattle.cause_effect.proofs.Below.{none_from, order_fits, users_more}
use Rattle.cause_effect.proofs.Using.{written_back}
use Rattle.cause_effect.proofs.users.Users.of.Goals as goal

pub overflow_cast-position : goal.overflow_cast-position
overflow_cast-position c =
    let few = order_fits c.args.site.now c.args.order.now c.requires.order (λ k. let fit = c.type_inv.order k in omega (arith, fit)) in
    let within = c.loop-position.invariant.within in
    let some = c.loop-position-test.true in
    omega (arith, few, within, some)

pub loop-position-init : goal.loop-position-init
loop-position-init c = record {
  size = c.in_ok-sets.ensures.size;
  within = omega arith;
  users = none_from c.args.site.now c.args.order.now c.in_ok-sets.sets.items c.in_ok-sets.ensures.none;
}

pub loop-position-preserved : goal.loop-position-preserved
loop-position-preserved c =
    let site = c.args.site.now in
    let order = c.args.order.now in
    let items = c.loop-position.sets.items in
    let n = c.loop-position.position - 1 in
    let x = get_or order n 0 in
    let fit = c.type_inv.order n in
    let within = c.loop-position.invariant.within in
    let some = c.loop-position-test.true in
    let next : c.loop-position.position ≡ n + 1 = omega (arith, some) in
    let size = c.add_marker.ensures.size in
    let len = sym c.deref_mut.ensures.len ∙ (ap length c.deref_mut.ensures.value ∙ c.loop-position.invariant.size) in
    let whole = written_back c.loop-position.sets.len c.add_marker.new.sets items (size ∙ sym len) in
    record {
      size = ap length whole ∙ size;
      within = omega (arith, within);
      users = subst (AreUsersFrom site order n) (sym whole)
          (users_more site c.requires.valid order c.requires.order n x c.deref_mut.result.now c.add_marker.new.sets (omega (arith, fit))
          (slice_get-get_or order n 0 (omega (arith, within, some)))
          (subst (AreUsersFrom site order (n + 1)) (sym c.deref_mut.ensures.value)
          (subst (λ i. AreUsersFrom site order i items) next c.loop-position.invariant.users))
          c.add_marker.ensures.users);
    }

pub returns : goal.returns
returns c =
    let site = c.args.site.now in
    let order = c.args.order.now in
    let last = c.loop-position-test.false in
    let done : c.loop-position.position ≡ 0 = omega (arith, last) in
    record {
      few = order_fits site order c.requires.order (λ k. let fit = c.type_inv.order k in omega (arith, fit));
      users = subst (AreUsersFrom site order 0) (sym c.from_vec.ensures)
          (subst (λ i. AreUsersFrom site order i c.loop-position.sets.items) done c.loop-position.invariant.users);
    }

use Rattle.std.proofs.Common.{◌≡◌, ◌∙◌, ◌+◌, ap, arith, length, length-append, List}
use Rattle.marker_table.specs.declared.values.Values.{Values}
use Rattle.cause_effect.specs.Users.{is_user}
use Rattle.cause_effect.proofs.Using.{none_pushed}
use Rattle.cause_effect.proofs.users_found.no_users.Goals as goal

pub loop-place-init : goal.loop-place-init
loop-place-init c = record {
  size = ap (length {A = Values}) c.in_ok-sets.ensures.items;
  none = λ place m. ap (λ (sets : List Values). is_user sets place m) c.in_ok-sets.ensures.items;
}

pub loop-place-preserved : goal.loop-place-preserved
loop-place-preserved c = record {
  size = ap (length {A = Values}) c.in_ok-push.ensures.items ∙ (length-append c.loop-place.sets.items _ ∙ ap (λ n. n + 1) c.loop-place.invariant.size);
  none = λ place m. ap (λ (sets : List Values). is_user sets place m) c.in_ok-push.ensures.items ∙
      none_pushed c.loop-place.sets.items c.none.result c.loop-place.invariant.none c.none.ensures place m;
}

pub returns : goal.returns
returns c =
    let last = c.loop-place-test.false in
    let most = c.loop-place.auto._place-end in
    let whole : c.loop-place._place ≡ 776 = omega (arith, last, most) in
    record { size = c.loop-place.invariant.size ∙ whole; none = c.loop-place.invariant.none }

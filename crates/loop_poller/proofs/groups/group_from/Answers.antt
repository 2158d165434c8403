use Rattle.std.proofs.Common.{ℕ, Option, ◌≡◌, ◌+◌, ◌-◌, ap, ◌∙◌, sym, arith, Some, None, slice_index_or, subst}
use Rattle.std.specs.List.{filter_map, range_with_len}
use Rattle.loop_poller.proofs.FollowingPoints.{found_first, found_gone, found_next}
use Rattle.loop_poller.proofs.groups.group_from.Goals as goal
use Rattle.loop_poller.proofs.groups.group_from.Goals.{in-Some, then-count-eq0, else-count-eq0+else-point-begin, in_default}

pub loop-address-preserved : goal.loop-address-preserved
loop-address-preserved c =
    let points = c.args.points.now in
    let l = c.loop-address in
    let first = c.args.first in
    let n = l.address - first in
    let f : ℕ → Option ℕ = λ address. slice_index_or points (address - 1) None in
    let few = l.invariant.few in
    let more : l.address + 1 - first ≡ n + 1 = omega arith in
    let here : l.address ≡ first + n = omega arith in
    elim c.match-points-address.branch [
      | in-Some w ↦ (let at : f (first + n) ≡ Some w.in-Some.point = sym (ap f here) ∙ w.in-Some.is in
          elim w.if-count-eq0.branch [
            | then-count-eq0 v ↦ record {
              few = omega (arith, few);
              follow = rw (more, w.begin-is ∙ v.begin-is, w.count-is) (found_first f first n l.begin l.count _ l.invariant.follow at v.if-count-eq0.true);
            }
            | else-count-eq0+else-point-begin v ↦ record {
              few = omega (arith, few);
              follow = rw (more, w.begin-is ∙ v.begin-is, w.count-is) (found_next f first n l.begin l.count _ l.invariant.follow at v.if-point-begin.false);
            }
          ])
      | in_default w ↦ (let at : f (first + n) ≡ None = sym (ap f here) ∙ w.in_default.is in
          record {
            few = omega (arith, few);
            follow = rw (more, w.begin-is, w.count-is) (found_gone f first n l.begin l.count l.invariant.follow at);
          })
    ]

pub returns : goal.returns
returns c =
    let all : c.loop-address.address - c.args.first ≡ 8 = omega arith in
    subst (λ n. filter_map (λ address. slice_index_or c.args.points.now (address - 1) None) (range_with_len c.args.first n)
    ≡ range_with_len c.loop-address.begin c.loop-address.count) all c.loop-address.invariant.follow

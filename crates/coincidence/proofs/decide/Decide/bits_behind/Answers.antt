use Rattle.std.proofs.Common.{◌≡◌, ◌+◌, ◌<◌, length, get_or, sym, ◌∙◌, ap, subst, arith}
use Rattle.coincidence.proofs.GoingOn.{cleared_smaller, more_in_front, none_in_front, one_in_front, point_of, told_by_bit}
use Rattle.coincidence.proofs.Watched.{point_small}
use Rattle.coincidence.proofs.decide.Decide.bits_behind.Goals as goal

pub loop-left-init : goal.loop-left-init
loop-left-init c = none_in_front c.args.bits

pub at-requires : goal.at-requires
at-requires c =
    let run = c.args.run.now in
    let bit = c.lowest_bit-bit.result in
    let on = c.loop-left.invariant.tail.among bit c.lowest_bit-bit.ensures.set in
    let told = told_by_bit c.args.self.now run c.args.bits bit c.requires.within c.requires.going on c.requires.can in
    let sum : run.first.point + (run.taken + bit) ≡ run.first.point + run.taken + bit = omega arith in
    subst (λ n. n < length c.args.self.now.points) (told.1 ∙ sum) (point_small told.0.stands _ told.0.may.own)

pub loop-left-preserved : goal.loop-left-preserved
loop-left-preserved c =
    let next = c.with_bit_8-left in
    let run = c.args.run.now in
    let low = c.lowest_bit-bit in
    let left = c.loop-left.left in
    let small = c.requires.going.within low.result (c.loop-left.invariant.tail.among low.result low.ensures.set) in
    let point = c.at.result.now in
    let sum : run.first.point + (run.taken + low.result) ≡ run.first.point + run.taken + low.result = omega arith in
    let most = c.loop-left.invariant.tail.most in
    let fits = c.ranges.bits.fits in
    more_in_front c.args.bits left next.result c.loop-left.invariant
    (one_in_front left low.result next.result (omega (arith, most, fits)) low.ensures.set low.ensures.none
    (record {
      watch = point;
      read = c.at.ensures ∙ ap (λ n. get_or c.args.self.now.points n point) (sym (point_of run low.result c.requires.within small ∙ sum));
      own = sym c.if-at-zone.false;
    })
    (cleared_smaller left low.result next.result next.ensures.value low.ensures.set next.ensures.this) next.type_inv next.ensures.others
    next.ensures.this)

pub loop-left-smaller : goal.loop-left-smaller
loop-left-smaller c =
    let next = c.with_bit_8-left in
    cleared_smaller c.loop-left.left c.lowest_bit-bit.result next.result next.ensures.value c.lowest_bit-bit.ensures.set next.ensures.this

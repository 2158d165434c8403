use Rattle.std.proofs.Common.{◌+◌, arith}
use Rattle.std.specs.Int.{w8, trailing_zeros}
use Rattle.answer_lanes.proofs.MaskBits.{IsFirst, first_set, none_set, set_below}
use Rattle.answer_lanes.proofs.mask_bits.first_bit.Goals as goal
use Rattle.answer_lanes.proofs.mask_bits.first_bit.Goals.{Else-bits-eq0}

first_of : (c : Else-bits-eq0) → IsFirst c.args.mask c.args.from c.args.count c.bits_within-bits.result c.bits_within-bits.type_inv
    c.bits_within-bits.ensures (trailing_zeros w8 c.bits_within-bits.result)
first_of c =
    first_set c.args.mask c.args.from c.args.count c.bits_within-bits.result c.bits_within-bits.type_inv c.bits_within-bits.ensures
    (let some = c.if-bits-eq0.false in omega (arith, some))

pub overflow_add-result : goal.overflow_add-result
overflow_add-result c =
    let low = set_below c.args.mask (c.args.from + trailing_zeros w8 c.bits_within-bits.result) c.ranges.mask.fits (first_of c).set in
    omega (arith, low)

pub returns-else-bits-eq0-clause-some : goal.returns-else-bits-eq0-clause-some
returns-else-bits-eq0-clause-some c =
    let first = first_of c in
    let within = first.within in
    (omega arith, omega (arith, within), first.set)

pub returns-then-bits-eq0-clause-none : goal.returns-then-bits-eq0-clause-none
returns-then-bits-eq0-clause-none c =
    none_set c.args.mask c.args.from c.args.count c.bits_within-bits.result c.bits_within-bits.type_inv c.bits_within-bits.ensures
    c.if-bits-eq0.true

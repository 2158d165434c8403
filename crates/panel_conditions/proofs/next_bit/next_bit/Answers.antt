use Rattle.std.proofs.Common.{◌<◌, ◌+◌, ◌/◌, ◌^◌, refl, arith}
use Rattle.std.specs.Int.{w32, trailing_zeros}
use Rattle.panel_conditions.proofs.NextBit.{IsNext, none_from, next_from}
use Rattle.panel_conditions.proofs.next_bit.next_bit.Goals as goal

next_of : (c : goal.Else-rest-eq0) → IsNext c.args.mask c.args.from (c.args.from + trailing_zeros w32 (c.args.mask / 2 ^ c.args.from))
next_of c = next_from c.args.mask c.args.from (trailing_zeros w32 (c.args.mask / 2 ^ c.args.from)) c.ranges.mask.fits c.if-from-ge32.false (let some =
    c.if-rest-eq0.false in omega (arith, some)) refl

pub returns-then-rest-eq0-clause-none : goal.returns-then-rest-eq0-clause-none
returns-then-rest-eq0-clause-none c k le less = none_from c.args.mask c.args.from c.if-rest-eq0.true k le

pub returns-else-rest-eq0-clause-bounds : goal.returns-else-rest-eq0-clause-bounds
returns-else-rest-eq0-clause-bounds c =
    let zeros = trailing_zeros w32 (c.args.mask / 2 ^ c.args.from) in
    let small : c.args.from + zeros < 32 = (next_of c).small in (omega arith, omega (arith, small))

pub returns-else-rest-eq0-clause-none : goal.returns-else-rest-eq0-clause-none
returns-else-rest-eq0-clause-none c = (next_of c).none

pub returns-else-rest-eq0-clause-set : goal.returns-else-rest-eq0-clause-set
returns-else-rest-eq0-clause-set c small = (next_of c).set

use Rattle.std.proofs.Common.{◌<◌, ◌^◌, arith, bit_and}
use Rattle.std.proofs.lemmas.Nat.{and_le_l}
use Rattle.site_types.proofs.Masks.{mask_and}
use Rattle.site_types.proofs.bits.common_32.Goals as goal

pub returns : goal.returns
returns c =
    let below : bit_and c.args.a c.args.b < 2 ^ 32 = omega (arith, and_le_l c.args.a c.args.b, c.ranges.a.fits) in
    mask_and 32 c.args.a c.args.b below

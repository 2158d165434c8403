use Rattle.std.proofs.Common.{◌<◌, ◌^◌, ◌-◌, arith, bit_and}
use Rattle.std.specs.Int.{w32}
use Rattle.std.proofs.lemmas.Nat.{and_le_l}
use Rattle.site_types.proofs.Masks.{mask_without}
use Rattle.site_types.proofs.bits.without_32.Goals as goal

pub returns : goal.returns
returns c =
    let below : bit_and c.args.a (2 ^ 32 - 1 - c.args.b) < 2 ^ 32 = omega (arith, and_le_l c.args.a (2 ^ 32 - 1 - c.args.b), c.ranges.a.fits) in
    mask_without w32 c.args.a c.args.b (omega arith) below

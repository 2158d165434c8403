use Rattle.std.proofs.Common.{◌<◌, ◌^◌, ◌-◌, arith, bit_and}
use Rattle.std.specs.Int.{w8}
use Rattle.std.proofs.lemmas.Nat.{and_le_l}
use Rattle.panel_conditions.proofs.Bits.{more_is}
use Rattle.panel_conditions.proofs.news.more_8.Goals as goal

pub returns : goal.returns
returns c =
    let below : bit_and c.args.shown (2 ^ 8 - 1 - c.args.before) < 2 ^ 8 =
    omega (arith, and_le_l c.args.shown (2 ^ 8 - 1 - c.args.before), c.ranges.shown.fits) in
    more_is w8 c.args.shown c.args.before (omega arith) below

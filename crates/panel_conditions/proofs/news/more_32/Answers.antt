use Rattle.std.proofs.Common.{◌<◌, ◌^◌, ◌-◌, arith, bit_and}
use Rattle.std.specs.Int.{w32}
use Rattle.std.proofs.lemmas.Nat.{and_le_l}
use Rattle.panel_conditions.proofs.Bits.{more_is}
use Rattle.panel_conditions.proofs.news.more_32.Goals as goal

pub returns : goal.returns
returns c =
    let below : bit_and c.args.shown (2 ^ 32 - 1 - c.args.before) < 2 ^ 32 =
    omega (arith, and_le_l c.args.shown (2 ^ 32 - 1 - c.args.before), c.ranges.shown.fits) in
    more_is w32 c.args.shown c.args.before (omega arith) below

use Rattle.std.proofs.Common.{◌==◌, ap}
use Rattle.std.proofs.lemmas.Nat.Bits.{bit_at-trailing_zeros}
use Rattle.std.specs.Int.{w32}
use Rattle.panel_conditions.proofs.next_bit.lowest_bit.Goals as goal

pub returns-clause-set : goal.returns-clause-set
returns-clause-set c = ap (λ n. n == 1) (bit_at-trailing_zeros w32 c.args.mask c.requires c.ranges.mask.fits).1

use Rattle.std.proofs.Common.{◌==◌, ap}
use Rattle.std.proofs.lemmas.Nat.Bits.{bit_at-trailing_zeros}
use Rattle.std.specs.Int.{w8}
use Rattle.coincidence.proofs.bits.lowest_bit.Goals as goal

pub returns-clause-set : goal.returns-clause-set
returns-clause-set c = ap (λ n. n == 1) (bit_at-trailing_zeros w8 c.args.byte c.requires c.ranges.byte.fits).1

pub returns-clause-none : goal.returns-clause-none
returns-clause-none c k below = ap (λ n. n == 1) ((bit_at-trailing_zeros w8 c.args.byte c.requires c.ranges.byte.fits).2 k below)

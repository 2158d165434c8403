use Rattle.std.proofs.Common.{◌%◌, ◌==◌, ap}
use Rattle.std.proofs.lemmas.Nat.{shr-shr}
use Rattle.coincidence.proofs.bits.bits_from.Goals as goal

pub returns : goal.returns
returns c k = ap (λ n. n % 2 == 1) (shr-shr c.args.byte c.args.place k)

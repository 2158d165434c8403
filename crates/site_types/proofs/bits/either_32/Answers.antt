use Rattle.std.proofs.Common.{arith}
use Rattle.std.proofs.lemmas.Nat.{or_lt}
use Rattle.site_types.proofs.Masks.{mask_or}
use Rattle.site_types.proofs.bits.either_32.Goals as goal

pub returns : goal.returns
returns c = mask_or 32 c.args.a c.args.b (or_lt 32 c.args.a c.args.b (omega arith) (omega arith))

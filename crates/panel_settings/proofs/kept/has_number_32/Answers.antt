use Rattle.std.proofs.Common.{arith}
use Rattle.panel_settings.proofs.Unset.{unset}
use Rattle.panel_settings.proofs.kept.has_number_32.Goals as goal

pub returns-else-bit-lt32 : goal.returns-else-bit-lt32
returns-else-bit-lt32 c = unset 32 c.args.mask c.args.number _ (omega arith) (omega arith) c.if-bit-lt32.false

use Rattle.std.proofs.Common.{arith}
use Rattle.panel_settings.proofs.Unset.{unset}
use Rattle.panel_settings.proofs.kept.has_number_8.Goals as goal

pub returns-else-bit-lt8 : goal.returns-else-bit-lt8
returns-else-bit-lt8 c = unset 8 c.args.mask c.args.number _ (omega arith) (omega arith) c.if-bit-lt8.false
